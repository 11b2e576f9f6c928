-- The lemmas that other crates use.
pub use Rattle.qr_parsing.proofs.lemmas.laws.{one-drawing, series-drawing, symbol-drawing}
