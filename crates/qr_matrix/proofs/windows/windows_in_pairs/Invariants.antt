use Rattle.{qr_matrix.specs.{Penalty.{finder_ratio, reads}, Steps.{set_count, AreWindowsTo}}, std.proofs.Common.{◌≡◌, ◌+◌, ◌*◌, ◌≤◌, ◌&&◌, ltb, ℕ, Bool}}
use Rattle.qr_matrix.proofs.windows.windows_in_pairs.Given as goal

abbrev pub invariant-loop-step : goal.invariant-loop-step
invariant-loop-step g l =
    let s = g.S.Squares.size l.squares in
    let dark = g.S.Squares.dark l.squares in
    let bit = g.S.Row.Rows.bit in
    let number = g.S.Row.Rows.number in
    record {
      counted : (b : Bool) → AreWindowsTo s (dark b) (l.first + 2 * l.step) (2 * (number l.above.twos b + (2 * number l.fours b + set_count (bit l.twos b))) + set_count (bit l.ones b));
      kept : l.first + 2 * l.step + 11 ≤ s → (b : Bool) (k : ℕ) → bit l.ratio b k ≡ (ltb k s && reads (λ i. dark b i k) (l.first + 2 * l.step) finder_ratio);
    }
