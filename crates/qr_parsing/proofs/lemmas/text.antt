pub mod PlaceLemmas
pub mod AsciiLemmas
pub mod HalfBlockLemmas
