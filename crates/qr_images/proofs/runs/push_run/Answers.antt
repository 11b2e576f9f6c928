use Rattle.std.proofs.Common.{arith}
use Rattle.qr_images.proofs.lemmas.runs.{run-long, run-none, run-one, run-two}
use Rattle.qr_images.proofs.runs.push_run.Goals as goal

pub returns-then-run-eq0-clause-items : goal.returns-then-run-eq0-clause-items
returns-then-run-eq0-clause-items c = run-none c.args.run.digit c.args.run.count c.args.piece.now c.if-run-eq0.true

pub returns-then-run-eq1-clause-items : goal.returns-then-run-eq1-clause-items
returns-then-run-eq1-clause-items c = run-one c.args.run.digit c.args.run.count _ _ _ c.if-run-eq1.true c.character-digit.ensures c.push.ensures.items

pub returns-then-run-eq2-clause-items : goal.returns-then-run-eq2-clause-items
returns-then-run-eq2-clause-items c = run-two c.args.run.digit c.args.run.count _ _ _ c.if-run-eq2.true c.character-digit.ensures c.push_all.ensures.items

pub returns-clause-items : goal.returns-clause-items
returns-clause-items c =
    run-long c.args.run.digit c.args.run.count _ _ _ _ _ (omega arith) c.character-digit.ensures c.push_twenties.ensures.items c.push_ones.ensures.items c.push-2.ensures.items
