use Rattle.{qr_matrix.specs.Bytes.byte_of, qr_parsing.specs.Steps.Sheet.is_sign, std.proofs.Common.{◌≡◌, ℕ, ◌+◌, ◌*◌, ◌<◌, length, slice_index_or}}
use Rattle.qr_parsing.proofs.sheet.write_by.Given as goal

-- the modules before the current one have been written
abbrev pub invariant-loop-i : goal.invariant-loop-i
invariant-loop-i l = record {
  long : length l.modules ≡ length l.fn.modules;
  row : (j : ℕ) → j < l.i → slice_index_or l.modules j 0 ≡ byte_of (is_sign l.signs (slice_index_or l.bytes (l.first + l.step * j) 0));
}
