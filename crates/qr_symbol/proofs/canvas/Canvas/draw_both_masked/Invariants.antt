use Rattle.{qr_layout.specs.Version.side_of, qr_matrix.specs.Grid.{colour, one_of, square, IsSquare}, qr_symbol.specs.Mask.{inverts, inverted}}
use Rattle.{qr_symbol.proofs.lemmas.patterns.FormatDrawingLemmas.{FormatDown, masked_square}, std.proofs.Common.{◌≡◌, ◌%◌, ◌&&◌, Bool, cond, ltb}}
use Rattle.qr_symbol.proofs.canvas.Canvas.draw_both_masked.Given as goal

abbrev pub invariant-loop-first : goal.invariant-loop-first
invariant-loop-first l = record {
  so_far : (s : Bool) → one_of l.pair s ≡ square l.self.unmasked.side (λ r c. cond (ltb (r % 12) l.first)
      (inverted (colour l.self.region r c && inverts (cond s l.masks.1 l.masks.0) r c) (colour l.self.unmasked r c)) (colour (one_of l.fn.pair s) r c));
}

abbrev pub invariant-loop-bit : goal.invariant-loop-bit
invariant-loop-bit l = record {
  square : (s : Bool) → IsSquare (side_of l.self.version) (one_of l.pair s);
  done : (s : Bool) → FormatDown l.self.version (cond s l.formats.1 l.formats.0) l.bit
      (masked_square l.self.version (cond s l.fn.masks.1 l.fn.masks.0) l.self.region l.self.unmasked) (one_of l.pair s);
}
