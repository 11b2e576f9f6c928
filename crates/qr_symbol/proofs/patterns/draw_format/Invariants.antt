use Rattle.{qr_layout.specs.Version.side_of, qr_matrix.specs.Grid.IsSquare, qr_symbol.proofs.lemmas.patterns.FormatDrawingLemmas.FormatDone}
use Rattle.qr_symbol.proofs.patterns.draw_format.Given as goal

abbrev pub invariant-loop-bit : goal.invariant-loop-bit
invariant-loop-bit l = record {
  square : IsSquare (side_of l.version) l.matrix;
  done : FormatDone l.version l.format l.bit l.fn.matrix l.matrix;
}
