use Rattle.std.proofs.{Common.{rules}, lemmas.Result.{err_from_is_err_and}}
use Rattle.qr_devices.{proofs.Facts.{emptied, written}, specs.Writing.{Stops, Writes}}
use Rattle.qr_drawing.specs.Text.{line_of}
use Rattle.qr_drawing.proofs.line.draw_line.Goals as goal

pub returns-in_err-put_line : goal.returns-in_err-put_line
returns-in_err-put_line g c =
    let p = err_from_is_err_and c.from_residual.result c.from_residual.ensures.1 in
    let m : Stops (g.W.Sink.device c.args.out.now) (g.W.Sink.device c.put_line.new.out) 0
    (line_of c.args.style c.args.margin (g.M.Eights.seen c.args.square.now) c.args.line) = search rules in
    written _ _ 0 _ c.from_residual.result (rw p.1 m)

pub returns : goal.returns
returns g c =
    let m : Writes (g.W.Sink.device c.args.out.now) (g.W.Sink.device c.put_line.new.out) 0 c.put_line.new.pen.interrupted
    (line_of c.args.style c.args.margin (g.M.Eights.seen c.args.square.now) c.args.line) c.put_line.new.pen.piece = search rules in
    written _ _ _ _ c.reserve.result (emptied _ _ _ _ c.put_line.new.pen c.reserve.new.self _ c.reserve.result m c.reserve.ensures.writes c.reserve.ensures.room)
