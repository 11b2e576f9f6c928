use Rattle.qr_layout.proofs.lemmas.region.{region-symmetric}
use Rattle.qr_layout.proofs.laws.region_is_symmetric.Goals as goal

pub returns : goal.returns
returns c = region-symmetric c.args.version
