pub mod BitLemmas
pub mod WindowLemmas
