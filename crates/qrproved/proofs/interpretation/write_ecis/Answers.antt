use Rattle.{qrproved.proofs.lemmas.interpretation.write-next, std.proofs.Common.rules}
use Rattle.qrproved.proofs.interpretation.write_ecis.Goals as goal

pub loop-i-preserved : goal.loop-i-preserved
loop-i-preserved c = search (rules, write-next)
