use Rattle.{qrproved.proofs.lemmas.drawing.{many-squares, one-side}, std.proofs.{Common.rules, lemmas.List.map-id}}
use Rattle.qrproved.proofs.document.document.Goals as goal

pub write_document-requires-clause-some : goal.write_document-requires-clause-some
write_document-requires-clause-some c = search (rules, many-squares)

pub write_document-requires-clause-few : goal.write_document-requires-clause-few
write_document-requires-clause-few c = search (rules, many-squares)

pub write_document-requires-clause-one_side : goal.write_document-requires-clause-one_side
write_document-requires-clause-one_side c = search (rules, map-id, one-side)
