use Rattle.{qrproved.proofs.lemmas.{drawing.{many-squares}, sheets.{all-fit}}, std.proofs.{Common.rules, lemmas.List.map-id}}
use Rattle.qrproved.proofs.sheets.sheets.Goals as goal

pub write_sheets-requires-clause-some : goal.write_sheets-requires-clause-some
write_sheets-requires-clause-some c = search (rules, many-squares)

pub write_sheets-requires-clause-few : goal.write_sheets-requires-clause-few
write_sheets-requires-clause-few c = search (rules, many-squares)

pub write_sheets-requires-clause-fits : goal.write_sheets-requires-clause-fits
write_sheets-requires-clause-fits c = search (rules, map-id, all-fit)
