pub mod Pixels
pub mod Finders
pub mod Turns
pub mod Clean
pub mod Laws
pub mod Steps
