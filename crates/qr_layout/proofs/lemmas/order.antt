pub mod ListLemmas
pub mod PathLemmas
pub mod WalkLemmas
pub mod CountLemmas
pub mod FastCountLemmas
pub mod OrderLemmas
