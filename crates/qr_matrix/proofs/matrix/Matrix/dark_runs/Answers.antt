use Rattle.{qr_matrix.proofs.lemmas.dark_runs.runs-of-row, std.proofs.Common.rules}
use Rattle.qr_matrix.proofs.matrix.Matrix.dark_runs.Goals as goal

pub returns : goal.returns
returns c = search (rules, runs-of-row)
