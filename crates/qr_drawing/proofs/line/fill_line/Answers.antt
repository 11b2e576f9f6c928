use Rattle.std.proofs.Common.{rules, ◌≡◌, length}
use Rattle.qr_devices.proofs.Facts.{filled}
use Rattle.qr_drawing.specs.Text.{line_of}
use Rattle.qr_drawing.proofs.line.fill_line.Goals as goal

pub returns-clause-text : goal.returns-clause-text
returns-clause-text g c =
    let filler = c.draw_line.new.out in
    let long : length filler.buffer.now ≡ length c.args.text.now = search rules in
    let there = filled c.draw_line.result (line_of c.args.style c.args.margin (g.M.Eights.seen c.args.square.now) c.args.line) c.args.text.now
    c.new-filler.result.buffer.now filler.buffer.now c.new-filler.result.len filler.len filler.counts c.new-filler.ensures.len c.new-filler.ensures.buffer
    c.requires.room long filler.within filler.full c.draw_line.ensures.ok c.draw_line.ensures.err
    (c.draw_line.ensures.fault c.new-filler.ensures.counts) c.draw_line.ensures.rest in
    search rules
