use Rattle.std.proofs.Common.{rules, ◌≡◌, ◌∙◌}
use Rattle.qr_drawing.{proofs.lemmas.text.CellLemmas.line-length, specs.{Raster.raster_width, Steps.Text.cell_room}}
use Rattle.qr_drawing.proofs.line.line_room.Goals.{in-HalfBlocks, in-Plain}
use Rattle.qr_drawing.proofs.line.line_room.Goals as goal

pub returns : goal.returns
returns g c =
    let most : c.match-style.most ≡ cell_room c.args.style = search (rules, in-Plain, in-HalfBlocks) in
    let width : c.from.result ≡ raster_width c.args.margin (g.M.Eights.seen c.args.square.now) = c.from.ensures ∙ c.width.ensures.value in
    λ y. rw (most, width) (line-length c.args.style c.args.margin (g.M.Eights.seen c.args.square.now) y)
