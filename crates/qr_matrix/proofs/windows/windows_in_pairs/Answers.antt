use Rattle.qr_matrix.{proofs.lemmas.{rows.{never, none-of}, runs.RowLemmas.side-most, windows.windows-next}, specs.Penalty.{finder_ratio, reads}}
use Rattle.{qr_matrix.specs.Steps.{set_count, AreWindowsTo}, std.proofs.Common.{◌≡◌, ◌*◌, ◌+◌, ◌&&◌, ℕ, Bool, ltb, arith, refl, subst, ◌∙◌}}
use Rattle.qr_matrix.proofs.windows.windows_in_pairs.Goals as goal

none_more : (n : ℕ) → n ≡ n + 2 * 0
none_more n = omega arith

-- nothing is counted yet
begun : (t f w o : ℕ) → f ≡ 0 → w ≡ 0 → 2 * t + o ≡ 2 * (t + (2 * f + w)) + o
begun t f w o d e = omega arith

pub loop-step-init : goal.loop-step-init
loop-step-init g c =
    let m = c.args.squares.now in
    let s = g.S.Squares.size m in
    let d = g.S.Squares.dark m in
    let bit = g.S.Row.Rows.bit in
    let number = g.S.Row.Rows.number in
    let a = c.args.above in
    record {
      counted = λ b. subst (λ z. AreWindowsTo s (d b) z (2 * (number a.twos b + (2 * number c.default-fours.result b + set_count (bit c.below_in-twos.result b))) + set_count (bit a.ones b))) (none_more c.args.first)
          (subst (λ z. AreWindowsTo s (d b) c.args.first z) (begun _ _ _ _ (g.met.S.Row.Rows.zero_law _ c.default-fours.ensures b) (none-of (bit c.below_in-twos.result b) (λ k. c.below_in-twos.ensures b k ∙ never k))) (c.requires.counted b));
      kept = λ l b k. subst (λ z. bit a.ratio b k ≡ (ltb k s && reads (λ i. d b i k) z finder_ratio)) (none_more c.args.first) (c.requires.ratio (omega arith) b k);
    }

-- what three full adders keep of the windows of two rows: `a` and `u`, and `x` and `y`
kept : (n f t o a u s p x y e q z m : ℕ) → a + u + o ≡ s + 2 * p → x + y + s ≡ e + 2 * q → 2 * m + z ≡ (2 * f + t) + (p + q)
    → 2 * (n + (2 * m + z)) + e ≡ 2 * (n + (2 * f + t)) + o + (a + u) + (x + y)
kept n f t o a u s p x y e q z m d h i = omega arith

two_more : (n k : ℕ) → n + 2 * k + 1 + 1 ≡ n + 2 * (k + 1)
two_more n k = omega arith

two_after : (n k : ℕ) → n + 2 * k + 2 ≡ n + 2 * (k + 1)
two_after n k = omega arith

pub loop-step-preserved : goal.loop-step-preserved
loop-step-preserved g c =
    let m = c.args.squares.now in
    let s = g.S.Squares.size m in
    let d = g.S.Squares.dark m in
    let bit = g.S.Row.Rows.bit in
    let number = g.S.Row.Rows.number in
    let few = side-most s g.row.WORDS c.requires.width in
    let l = c.loop-step in
    let n = number c.args.above.twos in
    let r = c.args.first + 2 * l.step in
    let across = bit c.row_windows-across.result in let below = bit c.row_windows-below.result in
    let upper = bit c.windows_at-upper.result in let lower = bit c.windows_at-lower.result in
    let first = λ (b : Bool). windows-next s (d b) r _ (across b) (upper b) _ few (l.invariant.counted b) (c.row_windows-across.ensures b) (c.windows_at-upper.ensures b) refl in
    let second = λ (b : Bool). windows-next s (d b) (r + 1) _ (below b) (lower b) (2 * (n b + (2 * number c.counted.result.1 b + set_count (bit c.counted.result.0 b))) + set_count (bit c.added-digit.result.0 b)) few (first b) (c.row_windows-below.ensures b) (c.windows_at-lower.ensures b)
    (kept (n b) (number l.fours b) (set_count (bit l.twos b)) (set_count (bit l.ones b)) (set_count (across b)) (set_count (upper b)) _ _ (set_count (below b)) (set_count (lower b)) _ _ _ _ (c.added-sum.ensures b) (c.added-digit.ensures b) (c.counted.ensures b)) in
    record {
      counted = λ b. subst (λ z. AreWindowsTo s (d b) z (2 * (n b + (2 * number c.counted.result.1 b + set_count (bit c.counted.result.0 b))) + set_count (bit c.added-digit.result.0 b))) (two_more c.args.first l.step) (second b);
      kept = λ _ b k. subst (λ z. bit c.ratio_in_column-after.result b k ≡ (ltb k s && reads (λ i. d b i k) z finder_ratio)) (two_after c.args.first l.step) (c.ratio_in_column-after.ensures b k);
    }

pub windows_at-lower-requires-clause-next : goal.windows_at-lower-requires-clause-next
windows_at-lower-requires-clause-next g c =
    let e : c.args.first + 2 * c.loop-step.step + 2 ≡ c.args.first + 2 * c.loop-step.step + 1 + 1 = omega arith in rw e at c.ratio_in_column-after.ensures

pub returns-clause-ratio : goal.returns-clause-ratio
returns-clause-ratio g c = let e : c.loop-step.step ≡ c.args.pairs = omega arith in rw e at c.loop-step.invariant.kept
