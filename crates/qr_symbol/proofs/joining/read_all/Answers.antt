use Rattle.std.proofs.{lemmas.{Grind.common_steps, List.take_all, Result.err_from_is_err_and}, Common.{rules, arith}}
use Rattle.qr_symbol.proofs.lemmas.joining.{readings-none, readings-more, unjoined-at}
use Rattle.qr_symbol.proofs.joining.read_all.Goals as goal

pub loop-symbol-init : goal.loop-symbol-init
loop-symbol-init c = search (rules, readings-none)

pub returns-in_err-read_symbol : goal.returns-in_err-read_symbol
returns-in_err-read_symbol c = search (rules, err_from_is_err_and, unjoined-at)

pub loop-symbol-preserved : goal.loop-symbol-preserved
loop-symbol-preserved c = grind (arith, common_steps, readings-more)

pub returns-in_err-push : goal.returns-in_err-push
returns-in_err-push c = grind (arith, common_steps, err_from_is_err_and)

pub returns : goal.returns
returns c = search (rules, take_all)
