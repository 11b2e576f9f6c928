use Rattle.{qr_matrix.proofs.Facts.colour-transposed, qr_symbol.proofs.lemmas.reading.SymbolReadLemmas.read-same}
use Rattle.std.proofs.{Common.arith, lemmas.Result.IfOk-weaker}
use Rattle.qr_symbol.proofs.reading.read_without_mask.Goals as goal

pub returns-clause-read : goal.returns-clause-read
returns-clause-read c = IfOk-weaker c.collect_codewords.result _ _ (search (arith, read-same, colour-transposed)) c.collect_codewords.ensures.read
