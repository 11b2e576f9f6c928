use Rattle.qr_logos.proofs.lemmas.encoding.{AreBelow, IsReached}
use Rattle.{qr_logos.specs.Steps.Encoding.AreNeeded, qr_symbol.specs.VersionChoice.level_rank, std.proofs.Common.{◌+◌, ◌-◌, ◌*◌, ◌≤◌}}
use Rattle.qr_logos.proofs.encoding.size_with_logo.Given as goal

abbrev pub invariant-loop-bits : goal.invariant-loop-bits
invariant-loop-bits l = record {
  least : l.fn.least.version ≤ l.size.version;
  most : l.size.version ≤ 40;
  level : level_rank l.fn.least.level ≤ level_rank l.size.level;
  needed : AreNeeded l.fn.writing.rule l.fn.writing.interpretation l.fn.input l.size.version l.bits;
  below : AreBelow l.fn.least.version l.fn.least.level l.fn.writing.rule l.fn.writing.interpretation l.fn.input l.fn.logo.share l.above l.size.version l.size.level;
  few : l.above ≤ l.fn.logo.side;
  reached : IsReached l.fn.least.version l.fn.least.level l.fn.writing.rule l.fn.writing.interpretation l.fn.input l.fn.logo.share l.above;
}

-- how many sizes come after this one, if the lowest level is L
abbrev pub decreases-loop-bits : goal.decreases-loop-bits
decreases-loop-bits l = 4 * (40 - l.size.version) + level_rank l.size.level
