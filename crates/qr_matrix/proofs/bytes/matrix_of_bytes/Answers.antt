use Rattle.std.proofs.Common.{◌≡◌, ℕ, ◌+◌, ◌*◌, ◌==◌, not, false, slice_index_or, ap, ◌∙◌, arith}
use Rattle.qr_matrix.{specs.BitRow.has, proofs.lemmas.{bytes.read-there, matrix.GridLemmas.{filled, fill-line, fill-all}}}
use Rattle.qr_matrix.proofs.bytes.matrix_of_bytes.Goals as goal

pub loop-row-preserved : goal.loop-row-preserved
loop-row-preserved c = search (arith, slice_index_or, fill-line, has, read-there)

pub returns : goal.returns
returns c =
    let f = λ (row col : ℕ). not (slice_index_or c.args.bytes.now (row * c.args.side + col) 0 == 0) in
    let end : c.loop-row.row ≡ c.args.side = omega arith in
    c.loop-row.invariant.matrix ∙ (ap (λ (n : ℕ). filled c.args.side f (λ _ _. false) n 0) end ∙ fill-all c.args.side f (λ _ _. false))
