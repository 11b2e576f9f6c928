pub mod ValueLemmas
pub mod DistanceLemmas
