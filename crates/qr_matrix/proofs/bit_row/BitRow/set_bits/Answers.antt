use Rattle.{qr_matrix.proofs.lemmas.bit_row.{PlaceLemmas.{words-small, set-words}, SetLemmas.bits-set}, std.proofs.{Common.{rules, arith}, lemmas.Nat.or_lt}}
use Rattle.qr_matrix.proofs.bit_row.BitRow.set_bits.Goals as goal

pub returns : goal.returns
returns c = search (rules, bits-set, words-small)

pub invariant_of-self : goal.invariant_of-self
invariant_of-self c =
    set-words c.self.inside.0 c.from.result _ (omega arith) (or_lt 64 _ _ (words-small c.self.inside.0 c.self.invariant c.from.result) (omega arith)) c.self.invariant
