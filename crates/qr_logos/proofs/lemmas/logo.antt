-- Lemmas for logo.rt, in the order in which to read them.
pub mod MarkLemmas
pub mod PlaceLemmas
pub mod BlockLemmas
pub mod LargestLemmas
