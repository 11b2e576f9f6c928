use Rattle.{qr_symbol.proofs.lemmas.joining.bytes-more, std.proofs.{Common.rules, lemmas.{List.take_all, Result.IfOk-from_err}}}
use Rattle.qr_symbol.proofs.joining.joined_bytes.Goals as goal

pub loop-content-preserved : goal.loop-content-preserved
loop-content-preserved c = search (rules, bytes-more)

pub returns-in_err-extend_from_slice : goal.returns-in_err-extend_from_slice
returns-in_err-extend_from_slice c = IfOk-from_err _ _ c.from_residual.ensures.0

pub returns : goal.returns
returns c = search (rules, take_all)
