use Rattle.std.proofs.Common.{◌≡◌, ℕ, ◌<◌, false, eqb, get_or}
use Rattle.qr_parsing.proofs.text.position_of.Given as goal

-- no byte before the current one is `sign`
abbrev pub invariant-loop-i : goal.invariant-loop-i
invariant-loop-i l = (k : ℕ) → k < l.i → eqb (get_or l.bytes k 0) l.sign ≡ false
