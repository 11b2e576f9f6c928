pub mod GridLemmas
pub mod MatrixLemmas
pub mod TranspositionLemmas
