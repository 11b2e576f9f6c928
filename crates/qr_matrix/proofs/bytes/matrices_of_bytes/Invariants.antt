use Rattle.{qr_matrix.proofs.lemmas.matrix.GridLemmas.filled, std.proofs.Common.{◌≡◌, ◌+◌, ◌*◌, ◌==◌, not, false, slice_index_or}}
use Rattle.qr_matrix.proofs.bytes.matrices_of_bytes.Given as goal

-- the rows before the current one have been read
abbrev pub invariant-loop-row : goal.invariant-loop-row
invariant-loop-row l = record {
  end : l.end ≡ l.side * l.side;
  start : l.start ≡ l.row * l.side;
  matrix : l.matrix ≡ filled l.side (λ row col. not (slice_index_or l.bytes (row * l.side + col) 0 == 0)) (λ _ _. false) l.row 0;
  unknown : l.unknown ≡ filled l.side (λ row col. slice_index_or l.bytes (row * l.side + col) 0 == 2) (λ _ _. false) l.row 0;
}
