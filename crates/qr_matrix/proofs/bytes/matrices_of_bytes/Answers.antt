use Rattle.std.proofs.Common.{◌≡◌, ℕ, ◌+◌, ◌*◌, ◌==◌, not, false, slice_index_or, ap, ◌∙◌, arith}
use Rattle.qr_matrix.{specs.BitRow.has, proofs.lemmas.{bytes.read-there, matrix.GridLemmas.{filled, fill-line, fill-all}}}
use Rattle.qr_matrix.proofs.bytes.matrices_of_bytes.Goals as goal

pub loop-row-preserved : goal.loop-row-preserved
loop-row-preserved c =
    let i = c.loop-row.invariant in
    let xs = c.args.bytes.now in
    let s = c.args.side in
    let start = c.loop-row.start in
    let dark = λ (row col : ℕ). not (slice_index_or xs (row * s + col) 0 == 0) in
    let unknown = λ (row col : ℕ). slice_index_or xs (row * s + col) 0 == 2 in
    record {
      end = i.end;
      start = omega (arith, i.start);
      matrix =
          c.set_bit_row.ensures
          ∙ fill-line s dark (λ _ _. false) c.loop-row.row (has c.rows_of-dark.result.0) c.loop-row.matrix i.matrix (λ n l.
          read-there n s _ (not (slice_index_or xs (start + n) 0 == 0)) l (c.rows_of-dark.ensures.dark n)
          ∙ ap (λ (z : ℕ). not (slice_index_or xs (z + n) 0 == 0)) i.start);
      unknown =
          c.set_bit_row-in-loop-row.ensures
          ∙ fill-line s unknown (λ _ _. false) c.loop-row.row (has c.rows_of-dark.result.1) c.loop-row.unknown i.unknown (λ n l.
          read-there n s _ (slice_index_or xs (start + n) 0 == 2) l (c.rows_of-dark.ensures.unknown n)
          ∙ ap (λ (z : ℕ). slice_index_or xs (z + n) 0 == 2) i.start);
    }

pub returns-clause-dark : goal.returns-clause-dark
returns-clause-dark c =
    let f = λ (row col : ℕ). not (slice_index_or c.args.bytes.now (row * c.args.side + col) 0 == 0) in
    let end : c.loop-row.row ≡ c.args.side = omega arith in
    c.loop-row.invariant.matrix ∙ (ap (λ (n : ℕ). filled c.args.side f (λ _ _. false) n 0) end ∙ fill-all c.args.side f (λ _ _. false))

pub returns-clause-unknown : goal.returns-clause-unknown
returns-clause-unknown c =
    let f = λ (row col : ℕ). slice_index_or c.args.bytes.now (row * c.args.side + col) 0 == 2 in
    let end : c.loop-row.row ≡ c.args.side = omega arith in
    c.loop-row.invariant.unknown ∙ (ap (λ (n : ℕ). filled c.args.side f (λ _ _. false) n 0) end ∙ fill-all c.args.side f (λ _ _. false))
