use Rattle.{qr_symbol.proofs.Facts.symbol-read, std.proofs.Common.arith}
use Rattle.qr_theorems.proofs.laws.symbols_are_read.Goals as goal

pub returns : goal.returns
returns c = λ x l rule how h mask g may s. symbol-read c.args.version l rule how x h mask g (omega arith) (omega arith) may s
