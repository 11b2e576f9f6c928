use Rattle.qr_drawing.proofs.{drawing.draw.{Given.Over, Goals.{Joined-kind, in-Ascii, in-AsciiInverse, in-Svg, in-Utf8}}}
use Rattle.qr_devices.proofs.Facts.{emptied, written}
use Rattle.{qr_drawing.specs.Drawing.drawn, qr_devices.specs.Writing.{Stops, Writes}, std.proofs.{Common.{MatchResult, map, rules}, lemmas.Result.err_from_is_err_and}}
use Rattle.qr_drawing.proofs.drawing.draw.Goals as goal

-- what is written before the pen is emptied
puts : (g : Over) (c : Joined-kind g) → let text = drawn c.args.kind c.args.margin (map g.S.HasSquare.grid c.args.symbols.now) in
    let a = g.W.Sink.device c.args.out.now in
    let b = g.W.Sink.device c.match-kind.out in
    MatchResult c.match-kind.put (λ _. Writes a b 0 c.match-kind.pen.interrupted text c.match-kind.pen.piece) (λ _. Stops a b 0 text)
puts g c = elim c.match-kind.branch [
  | in-Ascii w ↦ search rules
  | in-AsciiInverse w ↦ search rules
  | in-Utf8 w ↦ search rules
  | in-Svg w ↦ search rules
]

pub returns-in_err-put : goal.returns-in_err-put
returns-in_err-put g c =
    let m = rw c.in_err-put.was at (puts g (goal.at.returns-in_err-put g c).Joined-kind) in
    written _ _ 0 _ c.from_residual.result (rw ((err_from_is_err_and c.from_residual.result c.from_residual.ensures.1).1) m)

pub returns : goal.returns
returns g c =
    let m = rw c.in_ok-put.was at (puts g (goal.at.returns g c).Joined-kind) in
    written _ _ _ _ c.reserve.result (emptied _ _ _ _ c.match-kind.pen c.reserve.new.self _ c.reserve.result m c.reserve.ensures.writes c.reserve.ensures.room)
