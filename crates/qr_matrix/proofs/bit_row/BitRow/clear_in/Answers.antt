use Rattle.std.proofs.{Common.{rules, ℕ, ◌%◌, ap, eqb, false, get_or, w64, arith}, lemmas.Nat.Bits.{bit_at_clear_same, bit_at_clear_other}}
use Rattle.qr_matrix.proofs.lemmas.bit_row.PlaceLemmas.{and-small, put-step, set-words, words-small}
use Rattle.qr_matrix.proofs.bit_row.BitRow.clear_in.Goals as goal

pub returns : goal.returns
returns c =
    let n = get_or c.self.inside.0 c.args.number 0 in
    rw (← c.self.view_is) (put-step c.self.inside.0 c.args.index c.args.number _ false c.self.invariant.0 (words-small c.self.inside.0 c.self.invariant) (and-small n _ (words-small c.self.inside.0 c.self.invariant c.args.number)) c.requires.index_in c.requires.word
    (ap (λ (z : ℕ). eqb z 1) (bit_at_clear_same w64 n (c.args.index % 64) (omega arith)))
    (λ j l o. bit_at_clear_other w64 n (c.args.index % 64) (omega arith) j l o))

pub invariant_of-self : goal.invariant_of-self
invariant_of-self c = search (rules, get_or, set-words, and-small, words-small)
