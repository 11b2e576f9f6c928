pub mod MessageLemmas
pub mod MarkLemmas
pub mod BlocksLemmas
pub mod LightLemmas
