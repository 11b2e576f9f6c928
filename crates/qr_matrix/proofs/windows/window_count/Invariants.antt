use Rattle.{qr_matrix.specs.{Penalty.{finder_ratio, reads}, Steps.{set_count, AreWindowsTo}}, std.proofs.Common.{◌≡◌, ◌+◌, ◌*◌, ◌≤◌, ◌&&◌, ltb, ℕ, Bool}}
use Rattle.qr_matrix.proofs.windows.window_count.Given as goal

abbrev pub invariant-loop-upper : goal.invariant-loop-upper
invariant-loop-upper g l = record {
  counted : (b : Bool) → AreWindowsTo (g.S.Squares.size l.squares) (g.S.Squares.dark l.squares b) l.upper (2 * g.S.Row.Rows.number l.twos b + set_count (g.S.Row.Rows.bit l.ones b));
}

abbrev pub invariant-loop-row : goal.invariant-loop-row
invariant-loop-row g l =
    let s = g.S.Squares.size l.squares in
    let dark = g.S.Squares.dark l.squares in
    record {
      counted : (b : Bool) → AreWindowsTo s (dark b) l.row (2 * g.S.Row.Rows.number l.above.twos b + set_count (g.S.Row.Rows.bit l.above.ones b));
      kept : l.row + 11 ≤ s → (b : Bool) (k : ℕ) → g.S.Row.Rows.bit l.above.ratio b k ≡ (ltb k s && reads (λ i. dark b i k) l.row finder_ratio);
    }

abbrev pub invariant-loop-last : goal.invariant-loop-last
invariant-loop-last g l = record {
  counted : (b : Bool) → AreWindowsTo (g.S.Squares.size l.squares) (g.S.Squares.dark l.squares b) l.last (2 * g.S.Row.Rows.number l.twos b + set_count (g.S.Row.Rows.bit l.ones b));
}

abbrev pub invariant-loop-lower : goal.invariant-loop-lower
invariant-loop-lower g l = record {
  counted : (b : Bool) → AreWindowsTo (g.S.Squares.size l.squares) (g.S.Squares.dark l.squares b) l.lower (2 * g.S.Row.Rows.number l.twos b + set_count (g.S.Row.Rows.bit l.ones b));
}
