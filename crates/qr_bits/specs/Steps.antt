-- How the code computes its results. Only the contracts of private functions and private types use these definitions.
pub mod RunState
pub mod BestModes
pub mod Segmentation
pub mod Parsing
