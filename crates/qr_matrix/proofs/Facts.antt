-- The lemmas that other crates use.
pub use Rattle.qr_matrix.proofs.lemmas.matrix.GridLemmas.{square-same, colour-square, same-place, colour-painted-here, colour-painted-there, passed, filled, fill-none, fill-line, fill-all, colour-transposed}
pub use Rattle.qr_matrix.proofs.lemmas.bit_row.PlaceLemmas.{has_bit-and, has_bit-or, has_bit-xor, has_bit-ones, has_bit-shr, low-bits}
pub use Rattle.qr_matrix.proofs.lemmas.bit_row.SetLemmas.{shl-bit, unset-above}
pub use Rattle.qr_matrix.proofs.lemmas.bit_row.RepeatLemmas.{below-at, same-same, &&-left, &&-right}
pub use Rattle.qr_matrix.proofs.lemmas.difference.{no-difference}
pub use Rattle.qr_matrix.proofs.lemmas.dark_runs.{AreRunsFrom, all-runs, other-runs, run-colours, run-in}
pub use Rattle.qr_matrix.proofs.lemmas.matrix.MatrixLemmas.{masked-bit, masked-past}
