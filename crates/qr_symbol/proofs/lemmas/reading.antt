pub mod ReadLemmas
pub mod SymbolReadLemmas
pub mod FormatLemmas
pub mod RefusalLemmas
pub mod RedrawingLemmas
pub mod RoundTripLemmas
