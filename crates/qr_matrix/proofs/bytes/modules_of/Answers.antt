use Rattle.{qr_matrix.proofs.lemmas.runs.ColumnLemmas.has-nothing, std.proofs.{Common.rules, lemmas.Bool.Decides.nat_tests}}
use Rattle.qr_matrix.proofs.bytes.modules_of.Goals as goal

pub loop-col-init : goal.loop-col-init
loop-col-init c = search (rules, has-nothing, nat_tests)
