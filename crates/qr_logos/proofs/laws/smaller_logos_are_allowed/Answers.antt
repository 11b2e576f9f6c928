use Rattle.{qr_logos.proofs.lemmas.logo.LargestLemmas.smaller-allowed}
use Rattle.qr_logos.proofs.laws.smaller_logos_are_allowed.Goals as goal

pub returns : goal.returns
returns c = λ share larger le a. smaller-allowed c.args.version c.args.level share c.args.side larger c.covered.result le c.covered.ensures a
