use Rattle.{qr_drawing.proofs.{lemmas.text.CellLemmas.{quad-inverse, quad-plain}, text.push_quad.Goals.{in-Inverse, in-Plain}}, std.proofs.Common.rules}
use Rattle.qr_drawing.proofs.text.push_quad.Goals as goal

pub returns : goal.returns
returns c = search (rules, in-Plain, quad-plain, in-Inverse, quad-inverse)
