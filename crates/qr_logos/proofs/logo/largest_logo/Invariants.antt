use Rattle.{qr_layout.specs.Version.side_of, std.proofs.Common.{◌<◌, ◌≤◌, ◌-◌}}
use Rattle.qr_logos.{proofs.lemmas.logo.LargestLemmas.AreSmaller, specs.Logo.IsAllowed}
use Rattle.qr_logos.proofs.logo.largest_logo.Given as goal

abbrev pub invariant-loop-above : goal.invariant-loop-above
invariant-loop-above l = record {
  low : IsAllowed l.fn.version l.fn.level l.fn.share l.side;
  high : AreSmaller l.fn.version l.fn.level l.fn.share l.above;
  apart : l.side < l.above;
  small : l.above ≤ side_of l.fn.version - 17;
}

abbrev pub decreases-loop-above : goal.decreases-loop-above
decreases-loop-above l = l.above - l.side
