use Rattle.{qr_bits.specs.Steps.Segmentation.marked, std.proofs.Common.{◌≡◌, ◌++◌, map, drop, take}}
use Rattle.qr_bits.proofs.segmentation.mark_separators.Given as goal

-- the characters so far are marked, and the others are as they were
abbrev pub invariant-loop-character : goal.invariant-loop-character
invariant-loop-character l = l.characters ≡ map marked (take l.character-index l.fn.characters) ++ drop l.character-index l.fn.characters
