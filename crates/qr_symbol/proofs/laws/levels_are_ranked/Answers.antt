use Rattle.qr_symbol.proofs.lemmas.version_choice.{fewer-data}
use Rattle.qr_symbol.proofs.laws.levels_are_ranked.Goals as goal

pub returns-clause-fewer : goal.returns-clause-fewer
returns-clause-fewer c = fewer-data
