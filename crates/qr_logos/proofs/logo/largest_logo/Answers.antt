use Rattle.qr_logos.proofs.lemmas.logo.LargestLemmas.{allowed-none, largest-found, smaller-start}
use Rattle.std.proofs.Common.{arith}
use Rattle.qr_logos.proofs.logo.largest_logo.Goals as goal

pub loop-above-init : goal.loop-above-init
loop-above-init c =
    let made = c.largest_clear-above in
    record {
      low = allowed-none c.args.version c.args.level c.args.share (omega arith) (omega arith);
      high = smaller-start c.args.version c.args.level c.args.share made.result (omega arith) made.ensures.value;
      apart = omega arith;
      small = omega (arith, made.ensures.value);
    }

pub loop-above-preserved-then-is_allowed : goal.loop-above-preserved-then-is_allowed
loop-above-preserved-then-is_allowed c = let w = c.loop-above.invariant in record {
  low = c.is_allowed.ensures.allowed c.if-is_allowed.true;
  high = w.high;
  apart = omega (arith, w.apart, c.loop-above-test.true);
  small = w.small;
}

pub loop-above-preserved : goal.loop-above-preserved
loop-above-preserved c = let w = c.loop-above.invariant in record {
  low = w.low;
  high = c.is_allowed.ensures.refused c.if-is_allowed.false;
  apart = omega (arith, w.apart, c.loop-above-test.true);
  small = omega (arith, w.small, w.apart, c.loop-above-test.true);
}

pub returns : goal.returns
returns c =
    largest-found c.args.version c.args.level c.args.share c.loop-above.side c.loop-above.above c.loop-above.invariant.low c.loop-above.invariant.high
    (omega (arith, c.loop-above-test.false, c.loop-above.invariant.apart))
