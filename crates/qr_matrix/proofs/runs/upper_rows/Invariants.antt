use Rattle.{qr_matrix.specs.{Runs.joins, Steps.{joins_down, set_count, IsAbove, IsCountedTo}}, std.proofs.Common.{◌≡◌, ◌+◌, ◌*◌, ℕ, Bool}}
use Rattle.qr_matrix.proofs.runs.upper_rows.Given as goal

abbrev pub invariant-loop-step : goal.invariant-loop-step
invariant-loop-step g l =
    let s = g.S.Squares.size l.squares in
    let dark = g.S.Squares.dark l.squares in
    let bit = g.S.Row.Rows.bit in
    let number = g.S.Row.Rows.number in
    record {
      first_is : (b : Bool) (k : ℕ) → bit l.first b k ≡ joins s (dark b (2 * l.step)) k;
      above : (b : Bool) (c : ℕ) → IsAbove (joins_down s (dark b) c) (2 * l.step) (bit l.above.same b c) (bit l.above.threes b c) (bit l.above.earlier_threes b c) (bit l.above.fives b c) (bit l.above.earlier_fives b c);
      counted : (b : Bool) → IsCountedTo s (dark b) (2 * l.step) (2 * (2 * number l.in_fours b + set_count (bit l.twos b)) + set_count (bit l.ones b)) (2 * number l.pairs b + set_count (bit l.odd b));
    }
