use Rattle.{qr_matrix.specs.Steps.{joins_down, set_count, IsAbove, IsCountedTo}, std.proofs.Common.{◌+◌, ◌*◌, ℕ, Bool}}
use Rattle.qr_matrix.proofs.runs.runs_and_squares.Given as goal

abbrev pub invariant-loop-row : goal.invariant-loop-row
invariant-loop-row g l =
    let s = g.S.Squares.size l.squares in
    let dark = g.S.Squares.dark l.squares in
    let bit = g.S.Row.Rows.bit in
    let number = g.S.Row.Rows.number in
    record {
      above : (b : Bool) (c : ℕ) → IsAbove (joins_down s (dark b) c) l.row (bit l.above.same b c) (bit l.above.threes b c) (bit l.above.earlier_threes b c) (bit l.above.fives b c) (bit l.above.earlier_fives b c);
      counted : (b : Bool) → IsCountedTo s (dark b) l.row (2 * number l.twos b + set_count (bit l.ones b)) (number l.of_two b);
    }
