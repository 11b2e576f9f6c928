use Rattle.std.proofs.Common.{rules}
use Rattle.qr_symbol.proofs.encoding.symbol_on.Goals as goal

pub returns-clause-made : goal.returns-clause-made
returns-clause-made c = search rules
