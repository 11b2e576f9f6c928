use Rattle.{qr_mending.proofs.lemmas.sums.multiple-next, std.proofs.{Common.rules, lemmas.List.{get_or-set_same, get_or-set_other, length-set}}}
use Rattle.qr_mending.proofs.sums.add_multiples.Goals as goal

pub loop-k-preserved : goal.loop-k-preserved
loop-k-preserved c = search (rules, multiple-next, length-set, get_or-set_other, get_or-set_same)
