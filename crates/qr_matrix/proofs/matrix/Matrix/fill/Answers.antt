use Rattle.qr_matrix.proofs.lemmas.matrix.{GridLemmas.{colour-square, square-same}, MatrixLemmas.{rectangle-row, with_row-same}}
use Rattle.std.proofs.{Common.{rules, ◌≡◌, ◌≤◌, ℕ, Bool, false, ◌&&◌, cond, leb, ltb, ap, ◌∙◌, arith}, lemmas.Bool.Decides.nat_tests}
use Rattle.qr_matrix.specs.{Grid.colour, BitRow.has}
use Rattle.qr_matrix.proofs.matrix.Matrix.fill.Goals as goal

pub loop-row-init : goal.loop-row-init
loop-row-init c = search (rules, nat_tests, square-same, colour-square)

-- bit k of the row that is written
row-filled : (c : goal.After-set_bit_row-arg-1) (k : ℕ) → has c.if-dark.filled k ≡ cond (leb c.args.columns.start k && ltb k c.args.columns.end) c.args.dark (has c.bit_row-bits.result k)
row-filled c k = search (arith, nat_tests)

-- a bit that is outside the square before and after
outside : (n l r k : ℕ) (d x : Bool) → r ≤ n → n ≤ k → x ≡ false → cond (leb l k && ltb k r) d x ≡ false
outside n l r k d x h i e = grind (arith, nat_tests)

pub set_bit_row-requires-clause-past : goal.set_bit_row-requires-clause-past
set_bit_row-requires-clause-past c = search (rules, nat_tests, row-filled, outside)

pub loop-row-preserved : goal.loop-row-preserved
loop-row-preserved c =
    let g = c.loop-row.self in
    let row = c.loop-row.row in
    record {
      so_far =
          c.set_bit_row.ensures ∙ (with_row-same g row (has c.if-dark.filled) (λ k. cond (leb c.args.columns.start k && ltb k c.args.columns.end) c.args.dark (colour g row k))
          (λ k l. row-filled (c.before) k ∙ ap (cond (leb c.args.columns.start k && ltb k c.args.columns.end) c.args.dark) (c.bit_row-bits.ensures.colours k ∙ ap (λ r. colour g r k) c.from.ensures))
          ∙ rectangle-row c.args.self.now g c.args.rows.start row c.args.columns.start c.args.columns.end c.args.dark (omega arith) c.loop-row.invariant.so_far);
    }
