pub mod ChoiceLemmas
pub mod TableLemmas
