use Rattle.qr_symbol.proofs.lemmas.words.SplitLemmas.{reversed-bit}
use Rattle.qr_symbol.proofs.words.reversed.Goals as goal

pub returns : goal.returns
returns c = reversed-bit _ _ _ _ _ _ _ c.exchange_all-bits.ensures c.exchange_all-bits-2.ensures c.exchange_all-bits-3.ensures c.exchange_all-bits-4.ensures c.exchange_all-bits-5.ensures c.exchange_all.ensures
