use Rattle.std.proofs.lemmas.List.{map-set}
use Rattle.std.proofs.Common.{rules}
use Rattle.std.proofs.{Common.{ℕ, List, Bool, ◌≡◌, ◌<◌, ◌≤◌, ◌%◌, ◌*◌, ◌∙◌, ◌&&◌, length, ltb, eqb, not, cond, ap, set, sym, false, true, refl, arith}, lemmas.Bool.Decides.nat_tests, Math.ListN.length-set}
use Rattle.qr_matrix.specs.{Grid.{colour, is_same, square}, BitRow.{has, has_bit, dark_in}, Steps.{lane, lanes}}
use Rattle.qr_matrix.proofs.lemmas.{matrix.{GridLemmas.{colour-square, square-same}, MatrixLemmas.{line-inside, line-set, masked-past, row-past}}, matrix_pair.{PairLemmas.{lane-read, lanes-long, one-view, side-of, square-of}, TurnLemmas.passed-step}}
use Rattle.qr_matrix.proofs.matrix_pair.MatrixPair.set_rows_masked_in.Goals as goal

-- the bits of a row of each square that is the same row of one square
both : (a : List (List ℕ)) (b : List ℕ) (s : Bool) → ((c : ℕ) → has (lane a false) c ≡ has b c) → ((c : ℕ) → has (lane a true) c ≡ has b c) → (c : ℕ) → has (lane a s) c ≡ has b c
both a b false p q = p
both a b true p q = q

-- the bits of a pattern for each square
each : (s : Bool) (a : List (List ℕ)) (x y : List ℕ) (p q k : ℕ) → has (lane a false) k ≡ has x k → has (lane a true) k ≡ has y k → has x k ≡ has_bit p (k % 6) → has y k ≡ has_bit q (k % 6)
    → has (lane a s) k ≡ has_bit (cond s q p) (k % 6)
each false a x y p q k ex ey hx hy = ex ∙ hx
each true a x y p q k ex ey hx hy = ey ∙ hy

-- a masked module, of which `z` is the bit that is written, in one of the first words
masked-one : (n w k : ℕ) (z old d p x y m : Bool) → n ≤ w → k < n → z ≡ cond (ltb k w) d old → d ≡ not (is_same p x) → p ≡ y → x ≡ m → z ≡ cond m (not y) y
masked-one n w k z old d p x y m l h t e f g = grind (arith, nat_tests)

-- a bit past the side, if it was not set before, and is not set in the new row
unset : (k w : ℕ) (z d old : Bool) → z ≡ cond (ltb k w) d old → d ≡ false → old ≡ false → z ≡ false
unset k w z d old e f g = grind (arith, nat_tests)

pub loop-row-preserved : goal.loop-row-preserved
loop-row-preserved g c =
    let i = c.loop-row.invariant in
    let row = c.loop-row.row in
    let rows = c.loop-row.self-inside.rows.items in
    let first = c.self.inside.rows.items in
    let n = c.self.inside.side in
    let p = c.put_words.new.self in
    let e = side-of n first c.args.self.now c.self.view_is false in
    let here : row < length rows = omega (arith, i.long, c.from-side.ensures, c.loop-row-test.true) in
    let bits = λ (s : Bool) (k : ℕ). both c.of-in-loop-row.result c.bit_row-bits.result s c.of-in-loop-row.ensures.first c.of-in-loop-row.ensures.second k in
    let region = λ (s : Bool) (k : ℕ). both c.of.result c.bit_row-region.result s c.of.ensures.first c.of.ensures.second k in
    let line : (s : Bool) (r k : ℕ) → dark_in (lanes (set rows row p) s) r k ≡ cond (eqb r row) (has (lane p s) k) (dark_in (lanes rows s) r k) = search (rules, line-set, lanes-long, map-set) in
    let f = λ (s : Bool) (r k : ℕ). cond (colour c.args.within.now r k && has_bit (cond s c.args.patterns.1 c.args.patterns.0) (k % 6)) (not (colour c.args.unmasked.now r k)) (colour c.args.unmasked.now r k) in
    record {
      turn = omega (arith, i.turn);
      same = i.same;
      long = length-set rows row p ∙ i.long;
      so_far = λ s r k l.
          let pattern = each s c.of-pattern.result c.repeated.result c.repeated-2.result c.args.patterns.0 c.args.patterns.1 k (c.of-pattern.ensures.first k) (c.of-pattern.ensures.second k) (c.repeated.ensures k (omega (arith, c.self.invariant.1))) (c.repeated-2.ensures k (omega (arith, c.self.invariant.1))) in
          line s r k ∙ (ap (λ z. cond (eqb r row) (has (lane p s) k) z) (i.so_far s r k l) ∙ passed-step c.args.first row r (has (lane p s) k) (f s r k) (dark_in (lanes first s) r k) i.turn (λ t.
          masked-one n (64 * g.row.WORDS) k (has (lane p s) k) _ (has (lane c.bitxor.result s) k) _ _ _ _ (omega (arith, c.requires.width.most)) l (c.put_words.ensures s k) (c.bitxor.ensures s k) (bits s k ∙ c.bit_row-bits.ensures.colours k)
          (c.bitand-inverted.ensures s k ∙ (λ j. (region s k ∙ c.bit_row-region.ensures.colours k) j && pattern j)) ∙ ap (λ z. f s z k) (sym t)));
      past = λ s. line-inside n row (lanes rows s) (lanes (set rows row p) s) (lane p s) (line s)
          (λ k l. unset k (64 * g.row.WORDS) _ _ _ (c.put_words.ensures s k)
          (masked-past _ _ _ _ _ (c.bitxor.ensures s k) (c.bitand-inverted.ensures s k) (bits s k ∙ c.bit_row-bits.ensures.past k (omega (arith, c.requires.unmasked_side))) (region s k ∙ c.bit_row-region.ensures.past k (omega (arith, c.requires.within_side))))
          (row-past n row row (lanes rows s) (lane c.index_mut.result.now s) refl (omega (arith, lanes-long rows s)) (i.past s) (lane-read rows row c.index_mut.result.now s here c.index_mut.ensures.value) k l))
          (i.past s);
    }

pub returns : goal.returns
returns g c = λ s.
    let i = c.loop-row.invariant in
    let rows = c.loop-row.self-inside.rows.items in
    let first = c.self.inside.rows.items in
    let n = c.self.inside.side in
    let e = side-of n first c.args.self.now c.self.view_is false in
    let f = λ (r k : ℕ). cond (colour c.args.within.now r k && has_bit (cond s c.args.patterns.1 c.args.patterns.0) (k % 6)) (not (colour c.args.unmasked.now r k)) (colour c.args.unmasked.now r k) in
    one-view c.loop-row.self-inside.side rows s ∙ (ap (λ z. square z (dark_in (lanes rows s))) (i.same ∙ e) ∙ square-same _ _ _ (search (rules, colour-square, square-of, nat_tests)))
