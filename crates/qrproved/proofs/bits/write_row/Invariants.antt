use Rattle.{qr_matrix.specs.Grid.colour, qrproved.specs.Bits.bit_of, std.proofs.Common.{◌≡◌, ℕ, ◌+◌, ◌-◌, ◌*◌, ◌/◌, ◌%◌, ◌<◌, ◌≤◌, ◌⊎◌, false, length, slice_index_or}}
use Rattle.qrproved.proofs.bits.write_row.Given as goal

-- the modules before the current eight have been written, and the bits after them, up to the end of a byte, are 0
abbrev pub invariant-loop-col : goal.invariant-loop-col
invariant-loop-col l = record {
  long : length l.bits ≡ length l.fn.bits;
  whole : l.col % 8 ≡ 0;
  within : l.col < l.side + 8;
  before : (k : ℕ) → k < l.start → bit_of l.bits k ≡ bit_of l.fn.bits k;
  modules : (c : ℕ) → c < l.col → c < l.side → bit_of l.bits (l.start + c) ≡ colour l.matrix l.row c;
  clear : (k : ℕ) → (l.start + l.col ≤ k) ⊎ (l.start + l.side ≤ k) → k < 8 * ((l.start + l.col) / 8 + 1) → k < 8 * l.len → bit_of l.bits k ≡ false;
  others : (i : ℕ) → l.len ≤ i → slice_index_or l.bits i 0 ≡ slice_index_or l.fn.bits i 0;
}

abbrev pub decreases-loop-col : goal.decreases-loop-col
decreases-loop-col l = l.side + 8 - l.col
