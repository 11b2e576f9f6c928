pub mod Reading
pub mod Scanning
pub mod Laws
