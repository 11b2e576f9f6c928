-- The lemmas that other crates use.
pub use Rattle.qrencode_cli.proofs.lemmas.laws.{smallest-most, success-drawn, taken-have}
