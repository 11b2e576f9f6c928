use Rattle.{qr_devices.proofs.lemmas.pen.written, std.proofs.{Common.Ok, lemmas.Result.err_from_is_err_and}}
use Rattle.qr_devices.proofs.pen.write_text.Goals as goal

pub returns-in_err-send : goal.returns-in_err-send
returns-in_err-send g c = written _ _ 0 _ c.from_residual.result (rw ((err_from_is_err_and c.from_residual.result c.from_residual.ensures.1).1) c.in_err-send.ensures.writes)

pub returns : goal.returns
returns g c = written _ _ _ _ (Ok c.in_ok-send.field-0) c.in_ok-send.ensures.writes
