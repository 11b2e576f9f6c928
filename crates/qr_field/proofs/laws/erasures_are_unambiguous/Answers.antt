use Rattle.qr_field.proofs.lemmas.laws.DistanceLemmas.{unambiguous-known}
use Rattle.qr_field.proofs.laws.erasures_are_unambiguous.Goals as goal

pub returns : goal.returns
returns c = unambiguous-known
