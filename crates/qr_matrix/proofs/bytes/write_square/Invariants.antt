use Rattle.{qr_matrix.specs.{Bytes.byte_of, Grid.colour}, std.proofs.Common.{◌≡◌, ℕ, ◌+◌, ◌*◌, ◌<◌, ◌≤◌, ◌⊎◌, length, slice_index_or}}
use Rattle.qr_matrix.proofs.bytes.write_square.Given as goal

-- the rows before the current one have been written
abbrev pub invariant-loop-row : goal.invariant-loop-row
invariant-loop-row l = record {
  side : l.side ≡ l.matrix.side;
  end : l.end ≡ l.fn.start + l.side * l.side;
  next : l.next ≡ l.fn.start + l.row * l.side;
  long : length l.bytes ≡ length l.fn.bytes;
  modules : (row col : ℕ) → row < l.row → col < l.side → slice_index_or l.bytes (l.fn.start + (row * l.side + col)) 0 ≡ byte_of (colour l.matrix row col);
  others : (i : ℕ) → (i < l.fn.start) ⊎ (l.end ≤ i) → slice_index_or l.bytes i 0 ≡ slice_index_or l.fn.bytes i 0;
}
