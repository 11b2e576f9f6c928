use Rattle.qr_documents.proofs.{document.write_document.{Given.Over, Goals.{Joined-settings, in-Eps, in-Pdf, in-Svg}}}
use Rattle.qr_devices.proofs.Facts.{emptied, written}
use Rattle.{qr_documents.specs.Document.document, qr_devices.specs.Writing.{Stops, Writes}, std.proofs.{Common.{MatchResult, map, rules}, lemmas.Result.err_from_is_err_and}}
use Rattle.qr_documents.proofs.document.write_document.Goals as goal

-- what is written before the pen is emptied
puts : (g : Over) (c : Joined-settings g) → let text = document c.args.settings.now (map g.S.HasSquare.grid c.args.symbols.now) in
    let a = g.W.Sink.device c.args.out.now in
    let b = g.W.Sink.device c.match-settings.out in
    MatchResult c.match-settings.put (λ _. Writes a b 0 c.match-settings.pen.interrupted text c.match-settings.pen.piece) (λ _. Stops a b 0 text)
puts g c = elim c.match-settings.branch [
  | in-Svg w ↦ search rules
  | in-Eps w ↦ search rules
  | in-Pdf w ↦ search rules
]

pub returns-in_err-put : goal.returns-in_err-put
returns-in_err-put g c =
    let m = rw c.in_err-put.was at (puts g (goal.at.returns-in_err-put g c).Joined-settings) in
    written _ _ 0 _ c.from_residual.result (rw ((err_from_is_err_and c.from_residual.result c.from_residual.ensures.1).1) m)

pub returns : goal.returns
returns g c =
    let m = rw c.in_ok-put.was at (puts g (goal.at.returns g c).Joined-settings) in
    written _ _ _ _ c.reserve.result (emptied _ _ _ _ c.match-settings.pen c.reserve.new.self _ c.reserve.result m c.reserve.ensures.writes c.reserve.ensures.room)
