use Rattle.qr_symbol.proofs.lemmas.words.SplitLemmas.{unshuffled-bit}
use Rattle.qr_symbol.proofs.words.unshuffled.Goals as goal

pub returns : goal.returns
returns c = unshuffled-bit _ _ _ _ _ _ c.exchange_bits-bits.ensures c.exchange_bits-bits-2.ensures c.exchange_bits-bits-3.ensures c.exchange_bits-bits-4.ensures c.exchange_bits.ensures
