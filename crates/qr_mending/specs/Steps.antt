-- What the code does step by step. Only private contracts use these definitions.
pub mod Sums
pub mod Values
pub mod Polynomial
pub mod Errors
pub mod Roots
pub mod Message
pub mod Format
pub mod Mending
