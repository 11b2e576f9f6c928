use Rattle.qr_documents.specs.{Colours.{coloured_square, dark_colour, fill_colour, filled_square, light_square, share}, Measures.{fraction, last_digits}}
use Rattle.qr_drawing.specs.Svg.{numbered}
use Rattle.std.{proofs.Common.{append_assoc, refl}, specs.Fmt.digits}
use Rattle.qr_documents.proofs.laws.colours_compute.Goals as goal

pub returns-clause-red : goal.returns-clause-red
unfolding fill_colour share fraction last_digits digits
returns-clause-red c = refl

pub returns-clause-mixed : goal.returns-clause-mixed
unfolding fill_colour share fraction last_digits digits
returns-clause-mixed c = refl

pub returns-clause-plain : goal.returns-clause-plain
unfolding light_square filled_square dark_colour numbered
returns-clause-plain c w = simp append_assoc

pub returns-clause-filled : goal.returns-clause-filled
unfolding light_square coloured_square filled_square
returns-clause-filled c dark light w = simp append_assoc

pub returns-clause-bare : goal.returns-clause-bare
unfolding light_square coloured_square
returns-clause-bare c dark w = refl

pub returns-clause-modules : goal.returns-clause-modules
unfolding dark_colour
returns-clause-modules c dark light = refl
