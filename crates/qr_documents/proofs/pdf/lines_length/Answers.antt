use Rattle.qr_documents.{proofs.lemmas.boxes.{lines-begin, lines-end, lines_at}, specs.Boxes.{row_lines}}
use Rattle.qr_drawing.{proofs.Facts.{texts_below-more}, specs.Raster.{raster_width, texts_below}}
use Rattle.std.proofs.Common.{◌≡◌, ◌∙◌, sym, ◌+◌, ◌-◌, ap, arith, codes, length, length-append}
use Rattle.qr_documents.proofs.pdf.lines_length.Goals as goal

pub loop-row-init : goal.loop-row-init
loop-row-init c = record {
  len = sym (ap length (lines-begin (codes " 1 re\n") 0 c.args.raster.now.margin c.args.raster.now.matrix.now));
  low = omega arith;
}

pub loop-row-preserved : goal.loop-row-preserved
loop-row-preserved c =
    let margin = c.args.raster.now.margin in
    let square = c.args.raster.now.matrix.now in
    let ending = codes " 1 re\n" in
    let lines = lines_at ending 0 margin square in
    let up : 0 + (raster_width margin square - (margin + c.loop-row.row + 1)) ≡ c.from-bottom.result + c.from.result = omega arith in
    let here = ap (λ up. length (row_lines ending up margin square (margin + c.loop-row.row))) up in
    let more : length (texts_below (margin + (c.loop-row.row + 1)) lines) ≡ length (texts_below (margin + c.loop-row.row) lines) + length (lines (margin + c.loop-row.row)) =
    ap length (ap (λ n. texts_below n lines) (omega arith)) ∙ ap length (texts_below-more (margin + c.loop-row.row) lines) ∙ length-append (texts_below (margin + c.loop-row.row) lines) (lines (margin + c.loop-row.row)) in
    record {
      len = cc (c.loop-row.invariant.len, c.row_length-len.ensures.value, here, more);
      low = omega (arith, c.loop-row.invariant.low, c.row_length-len.ensures.most);
    }

pub returns : goal.returns
returns c = record {
  value = c.loop-row.invariant.len ∙ sym (ap length (lines-end (codes " 1 re\n") 0 c.args.raster.now.margin c.loop-row.row c.args.raster.now.matrix.now (omega arith)));
  most = omega (arith, c.loop-row.invariant.low);
}
