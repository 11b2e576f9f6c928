use Rattle.{qrproved.proofs.lemmas.drawing.{many-squares, one-side}, std.proofs.{Common.rules, lemmas.List.map-id}}
use Rattle.qrproved.proofs.drawing.drawn.Goals as goal

pub draw-requires-clause-some : goal.draw-requires-clause-some
draw-requires-clause-some c = search (rules, many-squares)

pub draw-requires-clause-few : goal.draw-requires-clause-few
draw-requires-clause-few c = search (rules, many-squares)

pub draw-requires-clause-one_side : goal.draw-requires-clause-one_side
draw-requires-clause-one_side c = search (rules, map-id, one-side)
