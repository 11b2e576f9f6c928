use Rattle.{qr_bits.specs.Interpretation.{meant_bytes, eci_changes}, std.proofs.Common.{◌≡◌, ◌++◌, drop, length, false}}
use Rattle.qr_bits.proofs.interpretation.meaning_of.Given as goal

-- what the items so far stand for, and what the rest does, make the whole
abbrev pub invariant-loop-item : goal.invariant-loop-item
invariant-loop-item l = record {
  bytes : l.meaning.bytes.items ++ meant_bytes l.fnc1 (drop l.item-index l.items) l.rest ≡ meant_bytes false l.items l.characters;
  ecis : l.meaning.ecis.items ++ eci_changes l.fnc1 (length l.meaning.bytes.items) (drop l.item-index l.items) l.rest ≡ eci_changes false 0 l.items l.characters;
}
