use Rattle.{qr_logos.specs.Logo.IsAllowed, std.proofs.Common.{◌+◌, ◌-◌, ◌<◌, ◌≤◌}}
use Rattle.qr_logos.proofs.encoding.first_refused.Given as goal

abbrev pub invariant-loop-side : goal.invariant-loop-side
invariant-loop-side l = record {
  least : l.fn.from ≤ l.side;
  most : l.side ≤ l.fn.logo.side + 1;
  allowed : l.fn.from < l.side → IsAllowed l.fn.size.version l.fn.size.level l.fn.logo.share (l.side - 1);
}

abbrev pub decreases-loop-side : goal.decreases-loop-side
decreases-loop-side l = l.fn.logo.side + 1 - l.side
