-- The lemmas that other crates use.
pub use Rattle.qr_layout.proofs.Facts.{Mem-of-Contains}
pub use Rattle.qr_symbol.proofs.lemmas.interleaving.CheckLemmas.{both-interleaved, checks-block, checks-push, map-each}
pub use Rattle.qr_symbol.proofs.lemmas.interleaving.PartLemmas.{part, parts-same}
pub use Rattle.qr_symbol.proofs.lemmas.reading.FormatLemmas.{format-read, level-one, level-small}
pub use Rattle.qr_symbol.proofs.lemmas.interleaving.OrderLemmas.{gather-some, positions-many}
pub use Rattle.qr_symbol.proofs.lemmas.joining.{joined-refused, joining-one, readings-next, readings-none, unjoined-next, unjoined-one}
pub use Rattle.qr_symbol.proofs.lemmas.interleaving.MessageLemmas.{sizes-whole, data-sizes-whole, final-one, final-whole, take-front}
pub use Rattle.qr_symbol.proofs.lemmas.interleaving.RankLemmas.{map-at, position-of, positions-one}
pub use Rattle.qr_symbol.proofs.lemmas.reading.ReadLemmas.{bits-one, message-one, read-one, read-some}
pub use Rattle.qr_symbol.proofs.lemmas.reading.RedrawingLemmas.{redrawn-drawn, redrawn-read}
pub use Rattle.qr_symbol.proofs.lemmas.reading.RefusalLemmas.{exactly, moved, FaultsAreOne}
pub use Rattle.qr_symbol.proofs.lemmas.reading.RoundTripLemmas.{symbol-format, symbol-holds, symbol-parsed, symbol-read}
pub use Rattle.qr_symbol.proofs.lemmas.series.SeriesLemmas.{long-has-no-series, series-joined, series-one}
pub use Rattle.qr_symbol.proofs.lemmas.series.SizeLemmas.{series-few, series-shortest, series-side, series-some}
pub use Rattle.qr_symbol.proofs.lemmas.series.{PartExistenceLemmas.none-shorter, PartLemmas.{needs-parts, parts-fit}}
pub use Rattle.qr_symbol.proofs.lemmas.encoding.{symbol-one, version-one}
pub use Rattle.qr_symbol.proofs.lemmas.interleaving.PositionLemmas.{len-most, part-at, part-grown, part-last, part-len, start-most, start-next, start-none, position-in}
pub use Rattle.qr_symbol.proofs.lemmas.version_choice.{version-short}
