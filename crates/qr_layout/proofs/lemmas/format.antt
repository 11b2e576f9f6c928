pub mod WordLemmas
pub mod BitPlaceLemmas
