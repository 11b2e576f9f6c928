pub mod Device
pub mod Trial
pub mod Writing
pub mod Pen
