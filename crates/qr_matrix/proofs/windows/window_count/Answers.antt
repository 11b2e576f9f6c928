use Rattle.std.proofs.Common.{ltb, ◌≡◌, ◌*◌, ◌+◌, ℕ, arith, ap, ◌∙◌}
use Rattle.qr_matrix.specs.{Sums.{count_below, sum_below}, Penalty.{over_lines, window_count}, Steps.is_found}
use Rattle.qr_matrix.proofs.lemmas.{rows.{never, none-of}, runs.RowLemmas.side-most, windows.{found-are-columns, found-none, windows-next}}
use Rattle.qr_matrix.proofs.windows.window_count.Goals as goal

-- nothing is counted yet
begun : (t o : ℕ) → t ≡ 0 → o ≡ 0 → 2 * t + o ≡ 0
begun t o d e = omega arith

pub loop-upper-init : goal.loop-upper-init
loop-upper-init g c = search (arith, begun, none-of, never)

pub loop-upper-preserved : goal.loop-upper-preserved
loop-upper-preserved g c =
    let m = c.args.squares.now in
    let s = g.S.Squares.size m in
    let few = side-most s g.row.WORDS c.requires.width in
    record {
      counted = λ b. windows-next s (g.S.Squares.dark m b) c.loop-upper.upper _ (g.S.Row.Rows.bit c.row_windows-across.result b) (g.S.Row.Rows.bit c.windows_at_edge-upright.result b) _ few
          (c.loop-upper.invariant.counted b) (c.row_windows-across.ensures b) (c.windows_at_edge-upright.ensures b) (c.counted.ensures b);
    }

pub loop-row-preserved : goal.loop-row-preserved
loop-row-preserved g c =
    let m = c.args.squares.now in
    let s = g.S.Squares.size m in
    let few = side-most s g.row.WORDS c.requires.width in
    record {
      counted = λ b. windows-next s (g.S.Squares.dark m b) c.loop-row.row _ (g.S.Row.Rows.bit c.row_windows-across-in-loop-row.result b) (g.S.Row.Rows.bit c.windows_at-upright.result b) _ few
          (c.loop-row.invariant.counted b) (c.row_windows-across-in-loop-row.ensures b) (c.windows_at-upright.ensures b) (c.counted-ones.ensures b);
      kept = λ _ b k. c.ratio_in_column-ratio-in-loop-row.ensures b k;
    }

pub loop-lower-preserved : goal.loop-lower-preserved
loop-lower-preserved g c =
    let m = c.args.squares.now in
    let s = g.S.Squares.size m in
    let few = side-most s g.row.WORDS c.requires.width in
    record {
      counted = λ b. windows-next s (g.S.Squares.dark m b) c.loop-lower.lower _ (g.S.Row.Rows.bit c.row_windows-across-in-loop-lower.result b) (g.S.Row.Rows.bit c.windows_at_edge-upright-in-loop-lower.result b) _ few
          (c.loop-lower.invariant.counted b) (c.row_windows-across-in-loop-lower.ensures b) (c.windows_at_edge-upright-in-loop-lower.ensures b) (c.counted-in-loop-lower.ensures b);
    }

pub loop-last-preserved : goal.loop-last-preserved
loop-last-preserved g c =
    let m = c.args.squares.now in
    let s = g.S.Squares.size m in
    let r = c.loop-last.last in
    let few = side-most s g.row.WORDS c.requires.width in
    record {
      counted = λ b. windows-next s (g.S.Squares.dark m b) r _ (g.S.Row.Rows.bit c.row_windows-across-in-loop-last.result b) (g.S.Row.Rows.bit c.below_in-none.result b) _ few
          (c.loop-last.invariant.counted b) (c.row_windows-across-in-loop-last.ensures b)
          (λ k. found-none s (λ i. g.S.Squares.dark m b i k) r (ltb k s) _ (omega (arith, c.side-side.ensures.value)) (λ _. omega (arith, c.side-side.ensures.value)) (c.below_in-none.ensures b k ∙ never k))
          (c.counted-in-loop-last.ensures b);
    }

-- what is counted in the end
value : (t o a k : ℕ) → a ≡ t + t → k ≡ a + o → k ≡ 2 * t + o
value t o a k e f = omega arith

pub returns-clause-value : goal.returns-clause-value
unfolding over_lines
returns-clause-value g c = λ b.
    let s = g.S.Squares.size c.args.squares.now in
    let d = g.S.Squares.dark c.args.squares.now b in
    let n : c.loop-last.last ≡ s = omega (arith, c.side-side.ensures.value, c.loop-last.auto.last-end, c.loop-last-test.false, c.from-last-end.ensures) in
    value _ _ _ _ (c.plus.ensures b) (c.add_to.ensures.value b)
    ∙ ((c.loop-last.invariant.counted b).windows_are
    ∙ (λ j. sum_below (n j) (λ r. window_count s (d r)) + (ap (λ z. sum_below z (λ r. count_below s (λ c. is_found s (λ i. d i c) r))) n ∙ found-are-columns s d) j))
