pub mod PairLemmas
pub mod NeighbourLemmas
pub mod TurnLemmas
pub mod WordsLemmas
