use Rattle.qr_matrix.proofs.lemmas.runs.RunLemmas.{runs-by-places}
use Rattle.qr_matrix.proofs.laws.runs_cost_by_places.Goals as goal

pub returns : goal.returns
returns c = λ s line. runs-by-places s line
