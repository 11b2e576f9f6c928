use Rattle.{qr_bits.specs.Padding.capacity_of, qr_layout.specs.declared.level.Level.Level}
use Rattle.{qr_symbol.specs.VersionChoice.level_rank, std.proofs.Common.{◌+◌, ◌<◌}}
use Rattle.qr_symbol.proofs.version_choice.highest_with_room.Given as goal

-- the levels that were tried are higher than the one asked for, and have too little room
abbrev pub invariant-loop-candidate : goal.invariant-loop-candidate
invariant-loop-candidate l = (m : Level) → 3 < level_rank m + l.candidate-index → (level_rank l.level < level_rank m) × (capacity_of l.version m < l.bits)
