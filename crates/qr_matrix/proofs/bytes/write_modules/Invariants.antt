use Rattle.{qr_matrix.specs.{Bytes.byte_of, Grid.colour}, std.proofs.Common.{◌≡◌, ℕ, ◌+◌, ◌<◌, ◌≤◌, ◌⊎◌, length, slice_index_or}}
use Rattle.qr_matrix.proofs.bytes.write_modules.Given as goal

-- the modules before the current one have been written
abbrev pub invariant-loop-col : goal.invariant-loop-col
invariant-loop-col l = record {
  long : length l.bytes ≡ length l.fn.bytes;
  modules : (col : ℕ) → col < l.col → slice_index_or l.bytes (l.start + col) 0 ≡ byte_of (colour l.matrix l.row col);
  others : (i : ℕ) → (i < l.start) ⊎ (l.start + l.col ≤ i) → slice_index_or l.bytes i 0 ≡ slice_index_or l.fn.bytes i 0;
}
