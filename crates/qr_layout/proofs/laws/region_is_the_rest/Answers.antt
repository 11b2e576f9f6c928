use Rattle.{qr_layout.proofs.lemmas.role.RolePlaceLemmas.{region-role, role-region}, std.proofs.Common.rules}
use Rattle.qr_layout.proofs.laws.region_is_the_rest.Goals as goal

pub returns : goal.returns
returns c = search (rules, role-region, region-role)
