use Rattle.{std.proofs.Common.arith, qr_layout.proofs.lemmas.role.RolePlaceLemmas.dark-module}
use Rattle.qr_layout.proofs.laws.dark_module_is_dark.Goals as goal

pub returns : goal.returns
returns c = dark-module c.args.version (omega arith) (omega arith)
