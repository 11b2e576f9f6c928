use Rattle.{qr_bits.specs.Bits.codeword_bit, qr_matrix.specs.BitRow.has_bit}
use Rattle.qr_symbol.proofs.lemmas.words.BitLemmas.{codewords-more, codewords-fits, codewords-room, next-bit}
use Rattle.std.proofs.Common.{rules, ◌≡◌, ℕ, ◌+◌, ◌-◌, ◌*◌, ◌/◌, ◌<◌, arith}
use Rattle.qr_symbol.proofs.words.bits_at.Goals as goal

pub overflow_mul-eight : goal.overflow_mul-eight
overflow_mul-eight c = omega (arith, codewords-room _ _ (omega arith) c.loop-next.invariant.small)

pub overflow_add-eight : goal.overflow_add-eight
overflow_add-eight c = omega (arith, codewords-room _ _ (omega arith) c.loop-next.invariant.small)

pub loop-next-preserved : goal.loop-next-preserved
loop-next-preserved c = record {
  small = codewords-fits _ _ _ c.loop-next.invariant.small (omega arith);
  held = search (rules, codewords-more);
}

pub returns : goal.returns
returns c = λ k l.
    let n = c.args.number in let held : (j : ℕ) → j < 64 → has_bit c.if-first-codewords.bits (63 - j) ≡ codeword_bit c.args.codewords.now (8 * (n / 8) + j) = search rules in
    search (rules, next-bit, codeword_bit)
