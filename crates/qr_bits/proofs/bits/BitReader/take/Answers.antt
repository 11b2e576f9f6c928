use Rattle.std.proofs.{Common.{◌≡◌, ◌+◌, ◌-◌, ◌*◌, ◌%◌, ◌≤◌, length, arith, rules}, lemmas.Nat.one_shl}
use Rattle.qr_bits.proofs.lemmas.bits.{BitLemmas.left_at, WindowLemmas.value-window}
use Rattle.qr_bits.proofs.bits.BitReader.take.Goals as goal

pub invariant_of-self : goal.invariant_of-self
invariant_of-self c = search (arith, left_at)

pub returns-clause-value : goal.returns-clause-value
returns-clause-value c =
    let old = c.self.inside in
    let w = c.args.width in
    let i = old.at in
    let inside : i + w ≤ 8 * length old.bytes.now = search (rules, left_at) in
    let whole : i % 8 + w + (24 - i % 8 - w) ≡ 24 = omega (arith, c.requires.1) in
    rw (one_shl w 32 (omega (arith, c.requires.1)))
    (search (rules, value-window))
