use Rattle.qr_matrix.{proofs.lemmas.{bit_row.SumLemmas.sum_below-more, penalties.row-count, rows.{never, none-of, set_count-most}}, specs.Steps.set_count}
use Rattle.{qr_matrix.specs.Sums.{count_below, places_passing, sum_below}, std.proofs.Common.{rules, ◌≡◌, ℕ, ◌+◌, ◌*◌, Bool, arith, ap, ◌∙◌}}
use Rattle.qr_matrix.proofs.penalties.dark_count.Goals as goal

-- nothing is counted yet
begun : (f t o : ℕ) → f ≡ 0 → t ≡ 0 → o ≡ 0 → 4 * f + 2 * t + o ≡ 0
begun f t o d e h = omega arith

pub loop-quarter-init : goal.loop-quarter-init
loop-quarter-init g c = search (rules, none-of, never, begun)

-- what three full adders keep: `a`, `b`, `p` and `q` are added to `o` ones, `t` twos and `f` fours
kept : (f t o a b u x p q l y s e k : ℕ) → a + b + o ≡ u + 2 * x → p + q + u ≡ l + 2 * y → x + y + t ≡ s + 2 * e → k ≡ f + e → 4 * k + 2 * s + l ≡ (4 * f + 2 * t + o) + (a + b + (p + q))
kept f t o a b u x p q l y s e k h i j m = omega arith

-- a sum with its next four terms
next : (n m : ℕ) (f : ℕ → ℕ) → m ≡ n + 1 → sum_below m f ≡ sum_below n f + f n
next n m f e = search (rules, sum_below-more)

-- a sum with the next four terms added is the sum of four terms more
four-more : (n m x y : ℕ) (f : ℕ → ℕ) → m ≡ n + 4 → x ≡ sum_below n f → y ≡ x + (f n + f (n + 1) + (f (n + 2) + f (n + 3))) → y ≡ sum_below m f
four-more n m x y f e d h =
    let b = next (n + 1) (n + 2) f (omega arith) in
    let i = next (n + 2) (n + 3) f (omega arith) in
    search rules

pub loop-quarter-preserved : goal.loop-quarter-preserved
loop-quarter-preserved g c =
    let m = c.args.squares.now in
    let s = g.S.Squares.size m in
    let bit = g.S.Row.Rows.bit in
    let d = g.S.Squares.dark m in
    let r = 4 * c.loop-quarter.quarter in
    let i = c.loop-quarter.invariant in
    let a = bit c.row_in-a.result in let b = bit c.row_in-b.result in
    let p = bit c.row_in-a-in-loop-quarter.result in let q = bit c.row_in-b-in-loop-quarter.result in
    let w = c.requires.width in
    let row = λ (z : Bool) (k : ℕ) (t : ℕ → Bool). row-count s g.row.WORDS t (d z k) w.most w.three in
    let more = λ (z : Bool). kept _ _ _ (set_count (a z)) (set_count (b z)) _ _ (set_count (p z)) (set_count (q z)) _ _ _ _ _ (c.added-upper.ensures z) (c.added-lower.ensures z) (c.added-sum.ensures z) (c.add_to-fours.ensures.value z) in
    record {
      counted = λ z. four-more r _ _ _ (λ k. count_below s (d z k)) (omega arith) (i.counted z)
          (more z ∙ (λ j. (4 * g.S.Row.Rows.number c.loop-quarter.fours z + 2 * set_count (bit c.loop-quarter.twos z) + set_count (bit c.loop-quarter.ones z))
          + (row z r (a z) (c.row_in-a.ensures.colours z) (c.row_in-a.ensures.past z) j + row z (r + 1) (b z) (c.row_in-b.ensures.colours z) (c.row_in-b.ensures.past z) j
          + (row z (r + 2) (p z) (c.row_in-a-in-loop-quarter.ensures.colours z) (c.row_in-a-in-loop-quarter.ensures.past z) j + row z (r + 3) (q z) (c.row_in-b-in-loop-quarter.ensures.colours z) (c.row_in-b-in-loop-quarter.ensures.past z) j))));
      small = λ z. let e = more z in let h = i.small z in
          let k = set_count-most (a z) in let l = set_count-most (b z) in let n = set_count-most (p z) in let o = set_count-most (q z) in omega arith;
    }

pub loop-row-preserved : goal.loop-row-preserved
loop-row-preserved g c =
    let m = c.args.squares.now in
    let s = g.S.Squares.size m in
    let bit = g.S.Row.Rows.bit c.row_in.result in
    let r = c.loop-row.row in
    record {
      counted = λ b. sum_below-more r _ _ _ (λ r. count_below s (g.S.Squares.dark m b r)) (c.loop-row.invariant.counted b)
          (row-count s g.row.WORDS (bit b) (g.S.Squares.dark m b r) c.requires.width.most c.requires.width.three (c.row_in.ensures.colours b) (c.row_in.ensures.past b)) (c.add_to-total-in-loop-row.ensures.value b);
      small = λ b. let p = c.loop-row.invariant.small b in let q = c.add_to-total-in-loop-row.ensures.bound b in omega arith;
    }

pub returns-clause-value : goal.returns-clause-value
unfolding places_passing
returns-clause-value g c = λ b.
    let m = c.args.squares.now in
    let s = g.S.Squares.size m in
    c.loop-row.invariant.counted b ∙ ap (λ z. sum_below z (λ r. count_below s (g.S.Squares.dark m b r))) (omega (arith, c.side.ensures.value))
