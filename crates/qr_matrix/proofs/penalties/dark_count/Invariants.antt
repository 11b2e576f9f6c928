use Rattle.{qr_matrix.specs.{Steps.set_count, Sums.{count_below, sum_below}}, std.proofs.Common.{◌≡◌, ◌+◌, ◌*◌, ◌≤◌, Bool}}
use Rattle.qr_matrix.proofs.penalties.dark_count.Given as goal

abbrev pub invariant-loop-quarter : goal.invariant-loop-quarter
invariant-loop-quarter g l =
    let s = g.S.Squares.size l.squares in
    let bit = g.S.Row.Rows.bit in
    record {
      counted : (b : Bool) → 4 * g.S.Row.Rows.number l.fours b + 2 * set_count (bit l.twos b) + set_count (bit l.ones b)
          ≡ sum_below (4 * l.quarter) (λ r. count_below s (g.S.Squares.dark l.squares b r));
      small : (b : Bool) → 4 * g.S.Row.Rows.number l.fours b + 2 * set_count (bit l.twos b) + set_count (bit l.ones b) ≤ 768 * l.quarter;
    }

abbrev pub invariant-loop-row : goal.invariant-loop-row
invariant-loop-row g l =
    let s = g.S.Squares.size l.squares in
    record {
      counted : (b : Bool) → g.S.Row.Rows.number l.total b ≡ sum_below l.row (λ r. count_below s (g.S.Squares.dark l.squares b r));
      small : (b : Bool) → g.S.Row.Rows.number l.total b ≤ 192 * l.row;
    }
