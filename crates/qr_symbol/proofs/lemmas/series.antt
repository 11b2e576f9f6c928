pub mod PartLemmas
pub mod PartExistenceLemmas
pub mod SeriesLemmas
pub mod SizeLemmas
