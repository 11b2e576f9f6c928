use Rattle.{qr_layout.proofs.lemmas.laws.{index-below, index-one, index-onto}, std.proofs.Common.rules}
use Rattle.qr_layout.proofs.laws.indices_are_places.Goals as goal

pub returns-clause-below : goal.returns-clause-below
returns-clause-below c = search (rules, index-below)

pub returns-clause-one_place : goal.returns-clause-one_place
returns-clause-one_place c = index-one c.args.version

pub returns-clause-each_index : goal.returns-clause-each_index
returns-clause-each_index c = search (rules, index-onto)
