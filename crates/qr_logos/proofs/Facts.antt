-- The lemmas that other crates use.
pub use Rattle.qr_logos.proofs.lemmas.encoding.{size-fits}
