use Rattle.{qr_layout.{proofs.Facts.Inside, specs.{Strips.places_of, Version.side_of}}, qr_matrix.specs.Grid.{transposed, IsSquare}}
use Rattle.{qr_symbol.proofs.lemmas.placement.PlacementLemmas.IsPlaced, std.specs.List.All}
use Rattle.qr_symbol.proofs.placement.draw_codewords.Given as goal

abbrev pub invariant-loop-strip : goal.invariant-loop-strip
invariant-loop-strip l = record {
  can_next : (goal.iterator-loop-strip).can_next l.strip-iterator;
  is_finite : (goal.iterator-loop-strip).is_finite l.strip-iterator;
  inside : All (Inside l.fn.version) l.strip-iterator;
  square : IsSquare (side_of l.fn.version) l.across;
  placed : IsPlaced l.fn.version l.codewords (transposed l.fn.across) (places_of (side_of l.fn.version) l.yielded) (places_of (side_of l.fn.version) l.strip-iterator) l.number (transposed l.across);
}
