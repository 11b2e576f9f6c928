pub mod BoolLemmas
pub mod SumLemmas
pub mod WordLemmas
pub mod PlaceLemmas
pub mod FirstLemmas
pub mod RepeatLemmas
pub mod SetLemmas
