use Rattle.{qr_bits.specs.Interpretation.fnc1_of, std.proofs.Common.{◌≡◌, drop}}
use Rattle.qr_bits.proofs.interpretation.fnc1_of.Given as goal

-- the items so far are ECI headers
abbrev pub invariant-loop-item : goal.invariant-loop-item
invariant-loop-item l = fnc1_of l.items ≡ fnc1_of (drop l.item-index l.items)
