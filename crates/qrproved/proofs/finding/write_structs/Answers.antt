use Rattle.{qrproved.proofs.lemmas.finding.struct-next, std.proofs.Common.rules}
use Rattle.qrproved.proofs.finding.write_structs.Goals as goal

pub loop-i-preserved : goal.loop-i-preserved
loop-i-preserved c = search (rules, struct-next)
