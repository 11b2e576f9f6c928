pub mod WeightLemmas
pub mod RemovalLemmas
