-- The lemmas that other crates use.
pub use Rattle.qr_bits.proofs.lemmas.bits.BitLemmas.{bits_at, bits_of-append, bits_of-more, bool_byte-bit, field-join, field-low, field-more, length-bits_of, length-field, power-fits}
pub use Rattle.qr_bits.proofs.lemmas.segmentation.BytesOnlyLemmas.{assignment-length, bytes-fit}
pub use Rattle.qr_bits.proofs.lemmas.interpretation.{least-most, may_write-drop, may_write-none, may_write-take}
pub use Rattle.qr_bits.proofs.lemmas.laws.MeantLemmas.{least-meant}
pub use Rattle.qr_bits.proofs.lemmas.segmentation.CoverLemmas.{from-turn, in-turn}
pub use Rattle.qr_bits.proofs.lemmas.padding.{capacity-26, capacity-least, capacity-nine, covered-short, fitting-medium, fitting-short}
unfoldable pub use Rattle.qr_bits.proofs.lemmas.segmentation.CoverLemmas.{CoversInTurn}
pub use Rattle.qr_bits.proofs.lemmas.laws.ContentLemmas.{parsed-few}
pub use Rattle.qr_bits.proofs.lemmas.laws.DataLemmas.{data-again, data-one, length-data, length-stream}
pub use Rattle.qr_bits.proofs.lemmas.longest_prefix.{empty-fits}
pub use Rattle.qr_bits.proofs.lemmas.parsing.ParsingLemmas.{fault-read}
pub use Rattle.qr_bits.proofs.lemmas.laws.PieceLemmas.{piece-fits}
pub use Rattle.qr_bits.proofs.lemmas.segmentation.SegmentLemmas.{bits-most, covers-all, least_fits, segmentation-one}
pub use Rattle.qr_bits.proofs.lemmas.parsing.ValueLemmas.{bytes-takes}
