use Rattle.{qr_layout.proofs.lemmas.role.RolePlaceLemmas.{format-first, format-second, format-only}, std.proofs.Common.rules}
use Rattle.qr_layout.proofs.laws.format_bits_have_places.Goals as goal

pub returns-clause-first : goal.returns-clause-first
returns-clause-first c = search (rules, format-first)

pub returns-clause-second : goal.returns-clause-second
returns-clause-second c = search (rules, format-second)

pub returns-clause-no_other : goal.returns-clause-no_other
returns-clause-no_other c = format-only c.args.version
