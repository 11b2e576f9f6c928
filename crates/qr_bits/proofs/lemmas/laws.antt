pub mod DataLemmas
pub mod PieceLemmas
pub mod MeantLemmas
pub mod ContentLemmas
