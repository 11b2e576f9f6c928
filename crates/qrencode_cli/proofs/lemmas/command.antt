pub mod AskingLemmas
pub mod RunningLemmas
pub mod ReadingLemmas
