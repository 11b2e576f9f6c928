use Rattle.std.proofs.Common.{arith}
use Rattle.qr_scanning.proofs.lemmas.laws.{input-found}
use Rattle.qr_scanning.proofs.laws.drawn_symbols_are_read.Goals as goal

pub returns : goal.returns
returns c = input-found c.args.version c.args.picture.now c.scan.result (λ all. all.items) (omega arith) (omega arith) c.symbols_are_readable.ensures c.scan.ensures.symbol
