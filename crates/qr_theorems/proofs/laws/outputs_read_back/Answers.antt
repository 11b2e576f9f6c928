use Rattle.qr_theorems.proofs.lemmas.laws.ReadBackLemmas.{outputs-read-back}
use Rattle.qr_theorems.proofs.laws.outputs_read_back.Goals as goal

pub returns : goal.returns
returns c = outputs-read-back
