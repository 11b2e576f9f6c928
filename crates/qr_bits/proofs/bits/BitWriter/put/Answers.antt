use Rattle.qr_bits.{proofs.lemmas.bits.BitLemmas.number-after, specs.Bits.field}
use Rattle.std.proofs.{Common.{rules, ◌+◌, ◌*◌, ◌%◌, ◌^◌, ◌++◌, ap, ◌∙◌, arith}, lemmas.Nat.one_shl}
use Rattle.qr_bits.proofs.bits.BitWriter.put.Goals as goal

pub returns : goal.returns
returns c =
    let old = c.self.inside in
    let left = c.loop-left.left in
    let size = (1 * 2 ^ c.args.width) % 2 ^ 32 in
    let bits = size * c.from.result + c.from-2.result % size in
    number-after old.whole.items c.loop-left.whole.items old.width c.args.width left old.rest c.args.number size bits _ (one_shl c.args.width 32 (omega arith))
    (search rules) (ap (λ z. bits % z) (one_shl left 32 (omega arith))) c.loop-left.invariant.bits
    ∙ ap (λ bs. bs ++ field c.args.width c.args.number) c.self.view_is
