use Rattle.std.proofs.Common.{◌≡◌, ℕ, ◌<◌, ◌/◌, ◌%◌, ◌&&◌, eqb, leb, ltb, cond, length, get_or}
use Rattle.qr_parsing.proofs.svg.paint.Given as goal

-- the box is painted up to the current column
abbrev pub invariant-loop-col : goal.invariant-loop-col
invariant-loop-col l = (i : ℕ) → i < length l.bytes → get_or l.bytes i 0 ≡ cond (eqb (i / l.width) l.fn.dark.y && (leb l.fn.dark.x (i % l.width) && ltb (i % l.width) l.col)) 1 (get_or l.fn.bytes i 0)
