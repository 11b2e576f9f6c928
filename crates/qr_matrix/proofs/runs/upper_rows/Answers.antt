use Rattle.qr_matrix.proofs.lemmas.{rows.{never, none-of, set_count-most}, runs.{AboveLemmas.{counted-next, share-next}, ChargeLemmas.row_cost}}
use Rattle.qr_matrix.{proofs.lemmas.runs.{ColumnLemmas.joins-down-bit, RowLemmas.side-most, SquareLemmas.{square-bit, squares-row}}, specs.Runs.joins}
use Rattle.{qr_matrix.specs.Steps.{joins_down, set_count, IsAbove, IsCountedTo}, std.proofs.Common.{rules, ◌≡◌, ℕ, ◌+◌, ◌*◌, Bool, arith, refl, subst}}
use Rattle.qr_matrix.proofs.runs.upper_rows.Goals as goal

-- nothing is counted yet
begun : (f t o : ℕ) → f ≡ 0 → t ≡ 0 → o ≡ 0 → 2 * (2 * f + t) + o ≡ 0
begun f t o d e h = omega arith

pub loop-step-init : goal.loop-step-init
loop-step-init g c = search (rules, never, none-of)

-- what three full adders keep of the points of two rows: `a` and `u`, and `x` and `y`
kept : (f t o a u s p x y n q z k m : ℕ) → a + u + o ≡ s + 2 * p → x + y + s ≡ n + 2 * q → p + q + t ≡ z + 2 * k → m ≡ f + k → 2 * (2 * m + z) + n ≡ 2 * (2 * f + t) + o + (a + u) + (x + y)
kept f t o a u s p x y n q z k m d e h i = omega arith

-- what a full adder keeps of the squares of two rows
paired : (f o a u s p m : ℕ) → a + u + o ≡ s + 2 * p → m ≡ f + p → 2 * m + s ≡ 2 * f + o + a + u
paired f o a u s p m d e = omega arith

two_more : (n : ℕ) → 2 * n + 1 + 1 ≡ 2 * (n + 1)
two_more n = omega arith

two_after : (n : ℕ) → 2 * n + 2 ≡ 2 * (n + 1)
two_after n = omega arith

one_more : (r : ℕ) → r + 2 ≡ r + 1 + 1
one_more r = omega arith

pub loop-step-preserved : goal.loop-step-preserved
loop-step-preserved g c =
    let m = c.args.squares.now in
    let s = g.S.Squares.size m in
    let d = g.S.Squares.dark m in
    let bit = g.S.Row.Rows.bit in
    let number = g.S.Row.Rows.number in
    let few = side-most s g.row.WORDS c.requires.width in
    let i = c.loop-step.invariant in
    let l = c.loop-step in
    let n = l.step in
    let r = 2 * n in
    let second = c.same_as_right-second in let third = c.same_as_right-third in
    let xor = g.met.S.Row.Rows.bitxor_law in
    let down : (b : Bool) (k : ℕ) → bit c.and_not-down.result b k ≡ joins_down s (d b) k r = λ b k.
    joins-down-bit s (λ i. d b i k) k r _ _ _ _ _ (omega (arith, c.requires.half_in, c.loop-step-test.true)) (c.and_not-down.ensures b k) (c.requires.columns b k) (xor _ _ _ c.bitxor.ensures b k) (c.row_in.ensures.colours b k) (c.row_in-middle.ensures.colours b k) in
    let further : (b : Bool) (k : ℕ) → bit c.and_not-further.result b k ≡ joins_down s (d b) k (r + 1) = λ b k.
    joins-down-bit s (λ i. d b i k) k (r + 1) _ _ _ _ _ (omega (arith, c.requires.half_in, c.loop-step-test.true)) (c.and_not-further.ensures b k) (c.requires.columns b k) (xor _ _ _ c.bitxor-in-loop-step.ensures b k) (c.row_in-middle.ensures.colours b k) (subst (λ z. bit c.row_in-in-loop-step.result b k ≡ d b z k) (one_more r) (c.row_in-in-loop-step.ensures.colours b k)) in
    let upright = c.next_row-upright in let lower = c.next_row-lower in
    let across = λ (b : Bool). set_count (bit c.costing.result b) in
    let across2 = λ (b : Bool). set_count (bit c.costing-in-loop-step.result b) in
    let between = λ (b : Bool) (k : ℕ). upright.ensures.above b k r (joins_down s (d b) k) (i.above b k) (down b k) in
    let points = λ (b : Bool). row_cost s (d b r) (bit l.first b) (bit c.costing.result b) few (i.first_is b) (c.costing.ensures b) in
    let points2 = λ (b : Bool). row_cost s (d b (r + 1)) (bit second.result b) (bit c.costing-in-loop-step.result b) few (second.ensures b) (c.costing-in-loop-step.ensures b) in
    let share = λ (b : Bool). share-next s (d b) r (bit upright.result.0 b) few (λ k. upright.ensures.upright b k r (joins_down s (d b) k) (i.above b k) (down b k)) in
    let share2 = λ (b : Bool). share-next s (d b) (r + 1) (bit lower.result.0 b) few (λ k. lower.ensures.upright b k (r + 1) (joins_down s (d b) k) (between b k) (further b k)) in
    let below = λ (b : Bool) (k : ℕ). subst (λ z. bit third.result b k ≡ joins s (d b z) k) (one_more r) (third.ensures b k) in
    let and = g.met.S.Row.Rows.bitand_law in
    let four = λ (b : Bool). squares-row s (d b) r (bit c.bitand-upper.result b) few (λ k. square-bit s (d b) r k (bit c.bitand-upper.result b k) _ (bit l.first b k) (bit second.result b k) (bit c.and_not-down.result b k) (and _ _ _ c.bitand.ensures b k) (and _ _ _ c.bitand-upper.ensures b k) (i.first_is b k) (λ _. second.ensures b k) (down b k)) in
    let four2 = λ (b : Bool). squares-row s (d b) (r + 1) (bit c.bitand-in-loop-step-2.result b) few (λ k. square-bit s (d b) (r + 1) k (bit c.bitand-in-loop-step-2.result b k) _ (bit second.result b k) (bit third.result b k) (bit c.and_not-further.result b k) (and _ _ _ c.bitand-in-loop-step.ensures b k) (and _ _ _ c.bitand-in-loop-step-2.ensures b k) (second.ensures b k) (λ _. below b k) (further b k)) in
    let upper = λ (b : Bool). counted-next s (d b) r _ _ (across b) (set_count (bit upright.result.0 b)) (set_count (bit c.bitand-upper.result b)) _ _ (i.counted b) (points b) (share b) (four b) (set_count-most (bit c.costing.result b)) (set_count-most (bit upright.result.0 b)) (set_count-most (bit c.bitand-upper.result b)) refl refl in
    record {
      first_is = λ b k. subst (λ z. bit third.result b k ≡ joins s (d b z) k) (two_after n) (third.ensures b k);
      above = λ b k. subst (λ z. IsAbove (joins_down s (d b) k) z (bit lower.result.1.same b k) (bit lower.result.1.threes b k) (bit lower.result.1.earlier_threes b k) (bit lower.result.1.fives b k) (bit lower.result.1.earlier_fives b k)) (two_more n)
          (lower.ensures.above b k (r + 1) (joins_down s (d b) k) (between b k) (further b k));
      counted = λ b. subst (λ z. IsCountedTo s (d b) z (2 * (2 * number c.add_to-in_fours.result b + set_count (bit c.added-rest-in-loop-step.result.0 b)) + set_count (bit c.added-digit.result.0 b)) (2 * number c.add_to-pairs.result b + set_count (bit c.added-rest.result.0 b))) (two_more n)
          (counted-next s (d b) (r + 1) _ _ (across2 b) (set_count (bit lower.result.0 b)) (set_count (bit c.bitand-in-loop-step-2.result b)) _ _ (upper b) (points2 b) (share2 b) (four2 b) (set_count-most (bit c.costing-in-loop-step.result b)) (set_count-most (bit lower.result.0 b)) (set_count-most (bit c.bitand-in-loop-step-2.result b))
          (kept (number l.in_fours b) (set_count (bit l.twos b)) (set_count (bit l.ones b)) (across b) (set_count (bit upright.result.0 b)) _ _ (across2 b) (set_count (bit lower.result.0 b)) _ _ _ _ _ (c.added-sum.ensures b) (c.added-digit.ensures b) (c.added-rest-in-loop-step.ensures b) (c.add_to-in_fours.ensures.value b))
          (paired (number l.pairs b) (set_count (bit l.odd b)) (set_count (bit c.bitand-upper.result b)) (set_count (bit c.bitand-in-loop-step-2.result b)) _ _ _ (c.added-rest.ensures b) (c.add_to-pairs.ensures.value b)));
    }

pub returns-clause-above : goal.returns-clause-above
returns-clause-above g c = λ b k.
    let m = c.args.squares.now in
    let bit = g.S.Row.Rows.bit in
    let a = c.loop-step.above in
    let e : 2 * c.loop-step.step ≡ 2 * c.args.half = omega arith in
    search rules
