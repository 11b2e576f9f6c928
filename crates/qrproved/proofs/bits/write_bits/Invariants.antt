use Rattle.{qr_matrix.specs.Grid.colour, qrproved.specs.Bits.bit_of, std.proofs.Common.{◌≡◌, ℕ, ◌+◌, ◌*◌, ◌/◌, ◌<◌, ◌≤◌, false, length, slice_index_or}}
use Rattle.qrproved.proofs.bits.write_bits.Given as goal

-- the rows before the current one have been written, and the bits after them, up to the end of a byte, are 0
abbrev pub invariant-loop-row : goal.invariant-loop-row
invariant-loop-row l = record {
  long : length l.bits ≡ length l.fn.bits;
  start : l.start ≡ l.row * l.side;
  modules : (r c : ℕ) → r < l.row → c < l.side → bit_of l.bits (r * l.side + c) ≡ colour l.matrix r c;
  clear : (k : ℕ) → l.start ≤ k → k < 8 * (l.start / 8 + 1) → k < 8 * l.len → bit_of l.bits k ≡ false;
  others : (i : ℕ) → l.len ≤ i → slice_index_or l.bits i 0 ≡ slice_index_or l.fn.bits i 0;
}
