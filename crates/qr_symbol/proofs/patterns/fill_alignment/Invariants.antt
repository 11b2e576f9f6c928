use Rattle.{qr_layout.specs.{Region.ring_of, Version.side_of}, std.{proofs.Common.{take, leb}, specs.List.list_any}}
use Rattle.{qr_matrix.specs.Grid.colour, qr_symbol.specs.Steps.Patterns.IsOver}
use Rattle.qr_symbol.proofs.patterns.fill_alignment.Given as goal

abbrev pub invariant-loop-centre : goal.invariant-loop-centre
invariant-loop-centre l = record {
  so_far : IsOver (side_of l.fn.version) (λ r c. list_any (λ m. leb (ring_of m.row m.col r c) 2) (take l.centre-index
      l.centres)) (λ _ _. l.dark) (colour l.fn.matrix) l.matrix;
}
