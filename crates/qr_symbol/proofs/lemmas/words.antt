pub mod BitLemmas
pub mod SplitLemmas
pub mod JoinLemmas
