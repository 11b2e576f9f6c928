pub mod Logo
pub mod Fault
pub mod Encoding
pub mod Laws
pub mod Steps
