use Rattle.{qr_bits.specs.Interpretation.are_fields, std.proofs.Common.{◌≡◌, ◌&&◌, drop}}
use Rattle.qr_bits.proofs.interpretation.may_all_precede.Given as goal

-- what the bytes so far have decided, and what the others decide
abbrev pub invariant-loop-i : goal.invariant-loop-i
invariant-loop-i l = (l.fields && are_fields (drop l.i l.firsts)) ≡ are_fields l.firsts
