use Rattle.{qr_layout.proofs.lemmas.role.RolePlaceLemmas.{version-first, version-second, version-only}, std.proofs.Common.arith}
use Rattle.qr_layout.proofs.laws.version_bits_have_places.Goals as goal

pub returns-clause-first : goal.returns-clause-first
returns-clause-first c = λ i k h. version-first c.args.version i k (omega arith) h

pub returns-clause-second : goal.returns-clause-second
returns-clause-second c = λ i k h. version-second c.args.version i k (omega arith) h

pub returns-clause-no_other : goal.returns-clause-no_other
returns-clause-no_other c = version-only c.args.version
