-- The lemmas that other crates use.
pub use Rattle.qr_field.proofs.lemmas.laws.DistanceLemmas.{near-same, unambiguous-known}
pub use Rattle.qr_field.proofs.lemmas.polynomial.PolynomialLemmas.{correction-one}
