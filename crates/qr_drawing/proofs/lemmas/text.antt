pub mod LineLemmas
pub mod CellLemmas
