use Rattle.{qr_bits.specs.Interpretation.{meant_bytes, eci_changes}, std.proofs.Common.{◌≡◌, ◌++◌, List, ℕ, drop, length, false}}
use Rattle.qr_bits.proofs.interpretation.is_plain.Given as goal

-- the items so far are segments, which took the characters `front`
abbrev pub invariant-loop-item : goal.invariant-loop-item
invariant-loop-item l = record {
  front : List ℕ;
  whole : front ++ l.rest ≡ l.characters;
  bytes : meant_bytes false l.items l.characters ≡ front ++ meant_bytes false (drop l.item-index l.items) l.rest;
  ecis : eci_changes false 0 l.items l.characters ≡ eci_changes false (length front) (drop l.item-index l.items) l.rest;
}
