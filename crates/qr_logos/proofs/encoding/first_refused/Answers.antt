use Rattle.{std.proofs.Common.{◌≡◌, ◌+◌, ◌-◌, arith}}
use Rattle.qr_logos.proofs.encoding.first_refused.Goals as goal

pub loop-side-preserved : goal.loop-side-preserved
loop-side-preserved c =
    let w = c.loop-side.invariant in
    let same : c.loop-side.side + 1 - 1 ≡ c.loop-side.side = omega arith in
    record {
      least = omega (arith, w.least);
      most = omega (arith, c.loop-side-test.true);
      allowed = λ _. rw same (c.is_allowed.ensures.allowed c.if-not-is_allowed.false);
    }

pub returns-then-not-is_allowed-clause-refused : goal.returns-then-not-is_allowed-clause-refused
returns-then-not-is_allowed-clause-refused c = λ _. c.is_allowed.ensures.refused c.if-not-is_allowed.true
