use Rattle.std.proofs.{Common.rules, lemmas.Result.err_from_is_err_and}
use Rattle.qr_symbol.proofs.mask.build.Goals as goal

pub returns-in_err-canvas : goal.returns-in_err-canvas
returns-in_err-canvas c = search (rules, err_from_is_err_and)
