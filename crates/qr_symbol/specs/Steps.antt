-- Definitions that only the contracts of private functions and private types use.
pub mod Words
pub mod Spans
pub mod Patterns
pub mod Placement
pub mod Collecting
pub mod Canvas
pub mod Series
pub mod Encoding
