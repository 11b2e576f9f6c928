use Rattle.std.proofs.{Common.rules, lemmas.List.{length-set, get_or-set_other, get_or-set_same}}
use Rattle.qr_parsing.proofs.sheet.write_by.Goals as goal

pub loop-i-preserved : goal.loop-i-preserved
loop-i-preserved c = search (rules, length-set, get_or-set_other, get_or-set_same)
