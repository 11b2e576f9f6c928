pub mod Block
pub mod Erasures
pub mod Format
pub mod Message
pub mod Mending
pub mod Series
pub mod Steps
