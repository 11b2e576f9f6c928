use Rattle.{qr_bits.specs.Bits.codeword_bit, qr_matrix.specs.BitRow.has_bit, std.proofs.Common.{◌≡◌, ℕ, ◌+◌, ◌-◌, ◌*◌, ◌^◌, ◌<◌}}
use Rattle.qr_symbol.proofs.words.bits_at.Given as goal

abbrev pub invariant-loop-next : goal.invariant-loop-next
invariant-loop-next l = record {
  small : l.eight < 2 ^ (8 * l.next);
  held : (j : ℕ) → j < 8 * l.next → has_bit l.eight (8 * l.next - 1 - j) ≡ codeword_bit l.codewords (8 * l.first + j);
}
