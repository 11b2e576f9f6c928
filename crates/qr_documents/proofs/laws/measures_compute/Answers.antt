use Rattle.qr_documents.specs.Measures.{fraction, last_digits, millimetres, points, whole_points}
use Rattle.std.{proofs.Common.refl, specs.Fmt.digits}
use Rattle.qr_documents.proofs.laws.measures_compute.Goals as goal

pub returns-clause-millimetres : goal.returns-clause-millimetres
unfolding millimetres fraction last_digits digits
returns-clause-millimetres c = refl

pub returns-clause-inch : goal.returns-clause-inch
unfolding points fraction last_digits digits
returns-clause-inch c = refl

pub returns-clause-rounded : goal.returns-clause-rounded
unfolding points fraction last_digits digits
returns-clause-rounded c = refl

pub returns-clause-whole : goal.returns-clause-whole
unfolding whole_points digits
returns-clause-whole c = refl

pub returns-clause-exact : goal.returns-clause-exact
unfolding whole_points digits
returns-clause-exact c = refl
