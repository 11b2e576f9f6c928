use Rattle.std.proofs.{lemmas.List.map-set, Common.rules}
use Rattle.std.proofs.{Common.{◌≡◌, ◌∙◌, ℕ, Bool, ap, set, cond, ltb, leb, ◌+◌, ◌-◌, ◌&&◌, ◌≤◌, false, arith}, lemmas.Bool.Decides.nat_tests, Math.ListN.length-set}
use Rattle.qr_matrix.specs.{Grid.one_of, BitRow.{has, has_bit}, Steps.{lane, lanes}}
use Rattle.qr_matrix.proofs.lemmas.{matrix.MatrixLemmas.{line-set, line-inside, line-write, row-of-square, row-past}, matrix_pair.PairLemmas.{lane-read, lanes-long, one-view, side-of, square-of}}
use Rattle.qr_matrix.proofs.matrix_pair.MatrixPair.set_columns.Goals as goal

pub put_bits-requires-clause-index_in : goal.put_bits-requires-clause-index_in
put_bits-requires-clause-index_in c = search (rules, nat_tests, side-of)

pub put_bits-requires-clause-fits : goal.put_bits-requires-clause-fits
put_bits-requires-clause-fits c = search (rules, nat_tests, side-of)

-- no bit from n on is set, if none was and the columns that are set end before it
past : (n col count k : ℕ) (x y z : Bool) → col + count ≤ n → n ≤ k → z ≡ cond (leb col k && ltb k (col + count)) x y → y ≡ false → z ≡ false
past n col count k x y z l m e f = grind (arith, nat_tests)

pub invariant_of-self : goal.invariant_of-self
invariant_of-self c =
    let m = c.self.inside in let a = c.args in let i = c.from.result in let p = c.put_bits.new.self in
    let old = c.index_mut.result.now in
    let e = side-of m.side m.rows.items a.self.now c.self.view_is false in (
      c.self.invariant.0,
      c.self.invariant.1,
      omega (arith, length-set m.rows.items i p, c.self.invariant.2),
      λ s. line-inside m.side a.row (lanes m.rows.items s) (lanes (set m.rows.items i p) s) (lane p s)
          (search (rules, line-set, lanes-long, map-set))
          (λ k l. past m.side a.col a.count k _ (has (lane old s) k) (has (lane p s) k) (omega arith) l (c.put_bits.ensures s k)
          (row-past m.side a.row i (lanes m.rows.items s) (lane old s) c.from.ensures (omega (arith, lanes-long m.rows.items s, c.self.invariant.2)) (c.self.invariant.3 s) (lane-read m.rows.items i old s (omega (arith, c.from.ensures, c.self.invariant.2)) c.index_mut.ensures.value) k l))
          (c.self.invariant.3 s),
    )

pub returns : goal.returns
returns c = λ s.
    let m = c.self.inside in let a = c.args in let i = c.from.result in let p = c.put_bits.new.self in
    let old = c.index_mut.result.now in
    let e = side-of m.side m.rows.items a.self.now c.self.view_is false in
    one-view m.side (set m.rows.items i p) s
    ∙ line-write m.side a.row (lanes m.rows.items s) (lanes (set m.rows.items i p) s) (one_of a.self.now s) (lane p s) _ (square-of m.side m.rows.items a.self.now c.self.view_is s)
    (search (rules, line-set, lanes-long, map-set))
    (λ k l. c.put_bits.ensures s k ∙ ap (cond (leb a.col k && ltb k (a.col + a.count)) (has_bit (cond s a.bits.1 a.bits.0) (k - a.col)))
    (row-of-square m.side a.row i (lanes m.rows.items s) (lane old s) (one_of a.self.now s) (square-of m.side m.rows.items a.self.now c.self.view_is s) c.from.ensures (omega (arith, lanes-long m.rows.items s, c.self.invariant.2)) (omega arith) (c.self.invariant.3 s) (lane-read m.rows.items i old s (omega (arith, c.from.ensures, c.self.invariant.2)) c.index_mut.ensures.value) k))
