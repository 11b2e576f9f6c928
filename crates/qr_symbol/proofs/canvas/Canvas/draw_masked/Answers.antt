use Rattle.{qr_layout.specs.{Format.format_word_of, Role.role_of, Version.side_of}, qr_matrix.proofs.Facts.{square-same, colour-square}}
use Rattle.{qr_matrix.specs.Grid.{Grid, square, colour}, qr_symbol.{proofs.lemmas.placement.PlacementLemmas.square-is, specs.Mask.{inverts, inverted}}}
use Rattle.{qr_symbol.specs.Steps.{Patterns.format_or, Placement.masked_colour}, std.proofs.Common.{rules, ◌≡◌, ℕ, ◌&&◌, ◌∙◌, ap}}
use Rattle.qr_symbol.proofs.canvas.Canvas.draw_masked.Goals as goal

pub draw_format-requires : goal.draw_format-requires
draw_format-requires c = search (rules, square-is)

pub returns : goal.returns
unfolding masked_colour
returns c =
    let f = λ (r k : ℕ). inverted (colour _ r k && inverts c.args.mask r k) (colour _ r k) in
    let s = side_of c.args.self.now.version in
    let side : c.args.matrix.now.side ≡ s = ap (λ (g : Grid). g.side) c.requires.square in
    c.draw_format.ensures ∙ square-same s (λ r k. format_or c.from-format.result (role_of c.args.self.now.version r k) (colour _ r k)) _ (λ r k l m.
    ap (λ (z : ℕ). format_or z (role_of c.args.self.now.version r k) (colour c.set_masked.new.matrix r k)) (c.from-format.ensures ∙ c.format_word.ensures) ∙ ap (format_or (format_word_of c.args.self.now.level c.args.mask) (role_of c.args.self.now.version r k)) (ap (λ (g : Grid). colour g r k) (c.set_masked.ensures ∙ ap (λ s. square s f) side) ∙ colour-square s f r k l m))
