pub mod WritingLemmas
pub mod StreamLemmas
