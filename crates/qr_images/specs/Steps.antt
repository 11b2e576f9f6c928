-- What the code does step by step. Only private contracts use these definitions.
pub mod Checksums
pub mod Codes
pub mod Lines
pub mod Pixels
pub mod Quads
pub mod Runs
pub mod Stream
