use Rattle.{qr_layout.specs.Format.first_place, qr_matrix.specs.{BitRow.has_bit, Grid.colour}, std.proofs.Common.{◌≡◌, ℕ, ◌<◌}}
use Rattle.qr_symbol.proofs.reading.has_format.Given as goal

abbrev pub invariant-loop-i : goal.invariant-loop-i
invariant-loop-i l = (k : ℕ) → k < l.i → colour l.matrix (first_place k).row (first_place k).col ≡ has_bit l.word k
