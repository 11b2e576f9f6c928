use Rattle.{qr_bits.proofs.lemmas.padding.{pads-even, pads-odd}, std.proofs.Common.{◌≡◌, ◌+◌, ◌-◌, arith, append_assoc, rules}}
use Rattle.qr_bits.proofs.padding.pad.Goals as goal

pub loop-i-preserved : goal.loop-i-preserved
loop-i-preserved c =
    let one : c.loop-i.i + 1 - c.len-first.result ≡ (c.loop-i.i - c.len-first.result) + 1 = omega (arith, c.loop-i.auto.i) in
    search (rules, pads-even, append_assoc, pads-odd)
