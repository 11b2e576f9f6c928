use Rattle.qrproved.proofs.lemmas.reading.{version-of}
use Rattle.qrproved.proofs.reading.version_of_side.Goals as goal

pub returns : goal.returns
returns c = version-of c.of_side.result c.in_ok-side.side c.args.side c.in_ok-side.ensures.1 c.of_side.ensures
