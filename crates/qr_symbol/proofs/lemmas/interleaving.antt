pub mod PositionLemmas
pub mod RankLemmas
pub mod CheckLemmas
pub mod OrderLemmas
pub mod MessageLemmas
pub mod PartLemmas
