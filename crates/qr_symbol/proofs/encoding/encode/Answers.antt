use Rattle.std.proofs.{Common.refl, lemmas.Result.IfOk-weaker}
use Rattle.qr_symbol.proofs.encoding.encode.Goals as goal

pub returns-clause-symbol : goal.returns-clause-symbol
returns-clause-symbol c = IfOk-weaker c.encode_as.result _ _ (λ s is. (is refl).1) c.encode_as.ensures.symbol

pub returns-clause-level : goal.returns-clause-level
returns-clause-level c = IfOk-weaker c.encode_as.result _ _ (λ s is. (is refl).0) c.encode_as.ensures.symbol
