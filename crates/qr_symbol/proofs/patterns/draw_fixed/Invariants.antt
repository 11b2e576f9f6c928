use Rattle.qr_layout.specs.{Alignment.{alignment_places, centres_of}, Region.ring_of, Steps.Rectangles.IsCentreInside, Version.side_of}
use Rattle.{qr_matrix.specs.Grid.colour, qr_symbol.{proofs.lemmas.patterns.VersionLemmas.version_drawn, specs.Steps.Patterns.{paint_of, IsOver}}}
use Rattle.std.{proofs.Common.{◌≡◌, ◌&&◌, ◌||◌, eqb, ltb, take, false}, specs.List.{list_any, All}}
use Rattle.qr_symbol.proofs.patterns.draw_fixed.Given as goal

abbrev pub invariant-loop-centre : goal.invariant-loop-centre
invariant-loop-centre l = record {
  centres : l.centres ≡ alignment_places (side_of l.fn.version) (centres_of l.fn.version);
  inside : All (IsCentreInside (side_of l.fn.version)) l.centres;
  so_far : IsOver (side_of l.fn.version) (λ r c. list_any (λ m. eqb (ring_of m.row m.col r c) 1) (take l.centre-index
      l.centres)) (λ _ _. false) (colour l.initial.matrix) l.matrix;
}

abbrev pub invariant-loop-at : goal.invariant-loop-at
invariant-loop-at l = record {
  matrix_side : l.matrix.side ≡ side_of l.fn.version;
  painted : IsOver (side_of l.fn.version) (λ r c. (eqb r 6 && ltb c l.at) || (eqb c 6 && ltb r l.at)) (paint_of
      l.fn.version l.fn.format) (colour l.initial.matrix) l.matrix;
}

abbrev pub invariant-loop-bit : goal.invariant-loop-bit
invariant-loop-bit l = record {
  side : l.matrix.side ≡ side_of l.fn.version;
  painted : IsOver (side_of l.fn.version) (version_drawn (side_of l.fn.version) l.bit) (paint_of l.fn.version l.fn.format)
      (colour l.initial.matrix) l.matrix;
}
