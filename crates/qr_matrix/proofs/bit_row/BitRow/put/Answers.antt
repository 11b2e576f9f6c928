use Rattle.std.proofs.{Common.{ℕ, ◌∙◌, ◌%◌, ap, eqb, sym, get_or, w64, arith}, lemmas.Nat.or_lt}
use Rattle.std.proofs.lemmas.Nat.Bits.{bit_at_set_same, bit_at_set_other, bit_at_clear_same, bit_at_clear_other}
use Rattle.qr_matrix.proofs.lemmas.bit_row.PlaceLemmas.{and-small, put-step, set-words, words-small}
use Rattle.qr_matrix.proofs.bit_row.BitRow.put.Goals as goal

pub returns-then-dark : goal.returns-then-dark
returns-then-dark c =
    let n = get_or c.self.inside.0 c.from.result 0 in
    rw (← c.self.view_is) (put-step c.self.inside.0 c.args.index c.from.result _ c.args.dark c.self.invariant.0 (words-small c.self.inside.0 c.self.invariant) (or_lt 64 n _ (words-small c.self.inside.0 c.self.invariant c.from.result) (omega arith)) c.requires c.from.ensures
    (ap (λ (z : ℕ). eqb z 1) (bit_at_set_same w64 n (c.args.index % 64) (omega arith)) ∙ sym c.if-dark.true)
    (λ j l o. bit_at_set_other w64 n (c.args.index % 64) (omega arith) j o))

pub returns-else-dark : goal.returns-else-dark
returns-else-dark c =
    let n = get_or c.self.inside.0 c.from-else-dark.result 0 in
    rw (← c.self.view_is) (put-step c.self.inside.0 c.args.index c.from-else-dark.result _ c.args.dark c.self.invariant.0 (words-small c.self.inside.0 c.self.invariant) (and-small n _ (words-small c.self.inside.0 c.self.invariant c.from-else-dark.result)) c.requires c.from-else-dark.ensures
    (ap (λ (z : ℕ). eqb z 1) (bit_at_clear_same w64 n (c.args.index % 64) (omega arith)) ∙ sym c.if-dark.false)
    (λ j l o. bit_at_clear_other w64 n (c.args.index % 64) (omega arith) j l o))

pub invariant_of-self : goal.invariant_of-self
invariant_of-self c =
    let n = get_or c.self.inside.0 c.from.result 0 in
    set-words c.self.inside.0 c.from.result _ (omega arith) (or_lt 64 n _ (words-small c.self.inside.0 c.self.invariant c.from.result) (omega arith)) c.self.invariant

pub invariant_of-self-else-dark : goal.invariant_of-self-else-dark
invariant_of-self-else-dark c = search (arith, get_or, set-words, and-small, words-small)
