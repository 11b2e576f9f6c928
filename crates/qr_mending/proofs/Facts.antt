-- The lemmas that other crates use.
pub use Rattle.qr_mending.proofs.lemmas.erasures.{unerased}
pub use Rattle.qr_mending.proofs.lemmas.format.{bits-alike, word-one}
pub use Rattle.qr_mending.proofs.lemmas.laws.{SoundnessLemmas.wrong-one, UndamagedLemmas.{copy-light, final-in-blocks}}
pub use Rattle.qr_mending.proofs.lemmas.mending.{alone-format, mended-not-refused, mended-reading-one, sure-format}
pub use Rattle.qr_mending.proofs.lemmas.message.LightLemmas.{light-mended}
pub use Rattle.qr_mending.proofs.lemmas.message.MarkLemmas.{codeword-read, codewords-bits, codewords-many}
pub use Rattle.qr_mending.proofs.lemmas.message.MessageLemmas.{in-blocks-one, item, items-in-blocks, received-all, received-map}
pub use Rattle.qr_mending.proofs.lemmas.series.{content-one, content-refused}
