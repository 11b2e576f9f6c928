pub mod BestLemmas
pub mod CostLemmas
pub mod AssignmentLemmas
pub mod DoubledLemmas
