use Rattle.{qr_bits.specs.Padding.capacity_of, qr_symbol.specs.VersionChoice.FitsVersion, std.proofs.Common.{◌≤◌, ◌<◌, ◌-◌, ℕ}}
use Rattle.qr_symbol.proofs.version_choice.least_fit.Given as goal

abbrev pub invariant-loop-last : goal.invariant-loop-last
invariant-loop-last l = record {
  from : l.fn.least.version ≤ l.first;
  none : (v : ℕ) → l.fn.least.version ≤ v → v < l.first → FitsVersion v l.least.level l.writing.rule l.writing.interpretation l.input → ⊥;
}

-- the versions that were tried have too little room
abbrev pub invariant-loop-number : goal.invariant-loop-number
invariant-loop-number l = (v : ℕ) → l.initial.number ≤ v → v < l.number → capacity_of v l.least.level < l.bits

abbrev pub decreases-loop-last : goal.decreases-loop-last
decreases-loop-last l = 41 - l.first
