use Rattle.qr_matrix.proofs.lemmas.{bit_row.{BoolLemmas.and-false, SumLemmas.sum_below-same}, rows.{never, set_count-most}}
use Rattle.qr_matrix.proofs.lemmas.runs.{AboveLemmas.{counted-next, share-left, share-next}, ChargeLemmas.row_cost}
use Rattle.qr_matrix.proofs.lemmas.runs.{ColumnLemmas.{joins-down-bit, shares-are-columns}, RowLemmas.{joins-past, side-most}, RunLemmas.runs-by-places}
use Rattle.qr_matrix.proofs.{lemmas.runs.SquareLemmas.{square-bit, squares-row}, runs.runs_and_squares.Goals.{then-row-from, else-row-from}}
use Rattle.qr_matrix.specs.{Penalty.{is_square_of_two, over_lines, run_cost, square_count}, Runs.{joins, place_cost}}
use Rattle.qr_matrix.specs.{Steps.{begin_five, joins_down, row_share, set_count}, Sums.{count_below, places_passing, sum_below}}
use Rattle.std.proofs.Common.{rules, ◌≡◌, ◌<◌, ℕ, ◌+◌, ◌-◌, ◌*◌, Bool, ltb, ◌&&◌, arith, ap, sym, ◌∙◌}
use Rattle.qr_matrix.proofs.runs.runs_and_squares.Goals as goal

-- what a full adder keeps: `a` and `u` are added to `o` ones and `t` twos
kept : (t o a u s e k : ℕ) → a + u + o ≡ s + 2 * e → k ≡ t + e → 2 * k + s ≡ (2 * t + o) + (a + u)
kept t o a u s e k h i = omega arith

pub loop-row-preserved : goal.loop-row-preserved
loop-row-preserved g c =
    let m = c.args.squares.now in
    let s = g.S.Squares.size m in
    let d = g.S.Squares.dark m in
    let bit = g.S.Row.Rows.bit in
    let number = g.S.Row.Rows.number in
    let few = side-most s g.row.WORDS c.requires.width in
    let l = c.loop-row in
    let i = l.invariant in
    let r = l.row in
    let here = c.same_as_right-same in let upright = c.next_row-upright in
    let both = c.if-row-from.down in
    let down : (b : Bool) (k : ℕ) → bit both.0 b k ≡ joins_down s (d b) k r = λ b k. elim c.if-row-from.branch [
      | then-row-from w ↦ ap (λ z. bit z.0 b k) w.down-is ∙ joins-down-bit s (λ i. d b i k) k r _ _ _ _ _ (omega (arith, c.side-side.ensures.value, w.if-row-from.true)) (w.and_not.ensures b k) (c.below_in-columns.ensures b k ∙ ap (λ z. ltb k z) c.side-side.ensures.value) (g.met.S.Row.Rows.bitxor_law _ _ _ w.bitxor.ensures b k) (w.row_in.ensures.colours b k) (w.row_in-then-row-from.ensures.colours b k)
      | else-row-from w ↦ search (rules, never, and-false, joins-past)
    ] in
    let below : (b : Bool) (k : ℕ) → r + 1 < s → bit both.1 b k ≡ joins s (d b (r + 1)) k = search rules in
    let across = λ (b : Bool). set_count (bit c.costing.result b) in
    let points = λ (b : Bool). row_cost s (d b r) (bit here.result b) (bit c.costing.result b) few (here.ensures b) (c.costing.ensures b) in
    let share = λ (b : Bool). share-next s (d b) r (bit upright.result.0 b) few (λ k. upright.ensures.upright b k r (joins_down s (d b) k) (i.above b k) (down b k)) in
    let four = λ (b : Bool). squares-row s (d b) r (bit c.bitand-in-loop-row.result b) few (λ k. square-bit s (d b) r k (bit c.bitand-in-loop-row.result b k) _ (bit here.result b k) (bit both.1 b k) (bit both.0 b k) (g.met.S.Row.Rows.bitand_law _ _ _ c.bitand.ensures b k) (g.met.S.Row.Rows.bitand_law _ _ _ c.bitand-in-loop-row.ensures b k) (here.ensures b k) (below b k) (down b k)) in
    record {
      above = λ b k. upright.ensures.above b k r (joins_down s (d b) k) (i.above b k) (down b k);
      counted = λ b. counted-next s (d b) r _ _ (across b) (set_count (bit upright.result.0 b)) (set_count (bit c.bitand-in-loop-row.result b)) _ _ (i.counted b) (points b) (share b) (four b) (set_count-most (bit c.costing.result b)) (set_count-most (bit upright.result.0 b)) (set_count-most (bit c.bitand-in-loop-row.result b))
          (kept (number l.twos b) (set_count (bit l.ones b)) (across b) (set_count (bit upright.result.0 b)) _ _ _ (c.added-sum.ensures b) (c.add_to-twos.ensures.value b)) (c.add_to-of_two.ensures.value b);
    }

-- what is counted in the end
value : (t o l a k n : ℕ) → a ≡ t + t → k ≡ a + o → n ≡ k + l → n ≡ 2 * t + o + l
value t o l a k n e f h = omega arith

-- the last sum
joined_sums : (x p q l w : ℕ) → x ≡ p + q → q + l ≡ w → x + l ≡ p + w
joined_sums x p q l w e f = omega arith

pub returns-clause-runs : goal.returns-clause-runs
unfolding over_lines
returns-clause-runs g c = λ b.
    let m = c.args.squares.now in
    let s = g.S.Squares.size m in
    let d = g.S.Squares.dark m b in
    let few = side-most s g.row.WORDS c.requires.width in
    let l = c.loop-row in
    let n : l.row ≡ s = omega (arith, c.side-side.ensures.value) in
    let left = g.S.Row.Rows.bit l.above.earlier_fives b in
    let last = share-left s d left few (λ k. (l.invariant.above b k).earlier_fives_are ∙ ap (λ z. ltb 4 z && begin_five (joins_down s d k) (z - 5)) n) in
    let rows : sum_below l.row (λ r. place_cost s (d r)) ≡ sum_below s (λ r. run_cost s (d r)) =
    ap (λ z. sum_below z (λ r. place_cost s (d r))) n ∙ sum_below-same s (λ r. place_cost s (d r)) (λ r. run_cost s (d r)) (λ r _. sym (runs-by-places s (d r))) in
    let columns : sum_below s (row_share s d) ≡ sum_below s (λ k. run_cost s (λ r. d r k)) =
    shares-are-columns s d ∙ sum_below-same s (λ k. place_cost s (λ r. d r k)) (λ k. run_cost s (λ r. d r k)) (λ k _. sym (runs-by-places s (λ r. d r k))) in
    value _ _ (set_count left) _ _ _ (c.plus.ensures b) (c.add_to.ensures.value b) (c.add_to-2.ensures.value b)
    ∙ joined_sums _ _ _ (set_count left) _ ((l.invariant.counted b).runs_are ∙ (λ j. rows j + sum_below (n j - 3) (row_share s d))) last
    ∙ ap (λ z. sum_below s (λ r. run_cost s (d r)) + z) columns

pub returns-clause-runs_bound : goal.returns-clause-runs_bound
returns-clause-runs_bound g c = λ b.
    let left = g.S.Row.Rows.bit c.loop-row.above.earlier_fives b in
    let e = value _ _ (set_count left) _ _ _ (c.plus.ensures b) (c.add_to.ensures.value b) (c.add_to-2.ensures.value b) in
    let q = set_count-most left in
    omega (arith, c.side-side.ensures.value, c.side-side.ensures.most, (c.loop-row.invariant.counted b).runs_most)

pub returns-clause-squares : goal.returns-clause-squares
unfolding square_count places_passing
returns-clause-squares g c = λ b.
    let m = c.args.squares.now in
    let s = g.S.Squares.size m in
    let n : c.loop-row.row ≡ s = omega (arith, c.side-side.ensures.value) in
    (c.loop-row.invariant.counted b).squares_are ∙ ap (λ z. sum_below z (λ r. count_below s (is_square_of_two s (g.S.Squares.dark m b) r))) n
