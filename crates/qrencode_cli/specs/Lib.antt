pub mod Command
pub mod Fault
pub mod Input
pub mod Laws
pub mod Symbols
pub mod Steps
