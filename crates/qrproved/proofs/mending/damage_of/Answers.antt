use Rattle.{qrproved.proofs.lemmas.mending.{better-more, greatest-more, worse-more}, std.proofs.Common.rules}
use Rattle.qrproved.proofs.mending.damage_of.Goals as goal

pub loop-i-preserved : goal.loop-i-preserved
loop-i-preserved c = search (rules, greatest-more, better-more, worse-more)
