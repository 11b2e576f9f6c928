use Rattle.{qr_matrix.specs.{Bytes.byte_of, Grid.colour}, std.proofs.Common.{◌≡◌, ℕ, ◌+◌, ◌*◌, ◌<◌, ◌≤◌, ◌⊎◌, length, slice_index_or}}
use Rattle.qr_matrix.proofs.bytes.write_words.Given as goal

-- the words before the current one have been written
abbrev pub invariant-loop-number : goal.invariant-loop-number
invariant-loop-number l = record {
  long : length l.bytes ≡ length l.fn.bytes;
  modules : (col : ℕ) → col < 64 * l.number → col < l.matrix.side → slice_index_or l.bytes (l.start + col) 0 ≡ byte_of (colour l.matrix l.row col);
  others : (i : ℕ) → (i < l.start) ⊎ (l.start + l.matrix.side + 7 ≤ i) → slice_index_or l.bytes i 0 ≡ slice_index_or l.fn.bytes i 0;
}
