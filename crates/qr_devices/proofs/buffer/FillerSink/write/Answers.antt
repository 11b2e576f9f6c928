use Rattle.std.proofs.Common.{arith, rules, ◌≡◌, ◌≤◌, ◌∙◌, ◌+◌, ◌-◌, ap, drop, length, sym}
use Rattle.std.proofs.lemmas.{List.length-take, Slice.drop-put_mid}
use Rattle.qr_devices.proofs.lemmas.pen.{drop-twice}
use Rattle.qr_devices.proofs.buffer.FillerSink.write.Goals as goal

pub returns-clause-rest : goal.returns-clause-rest
returns-clause-rest c =
    let at = c.args.self.now.len in
    let end = c.min-end.result in
    let before = c.args.self.now.buffer.now in
    let written = c.copy_from_slice.new.self in
    let on : at ≤ end = omega (arith, c.min-end.ensures, c.saturating_add.ensures, c.args.self.now.within) in
    let long : length written ≡ end - at = search (rules, length-take) in
    let sum : at + (end - at) ≡ end = omega arith in
    drop-put_mid at (end - at) before written end (omega arith) c.args.self.now.within long ∙ sym (drop-twice at (end - at) before ∙ ap (λ k. drop k before) sum)
