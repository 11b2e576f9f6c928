use Rattle.{qr_symbol.proofs.lemmas.words.SplitLemmas.{lower-bit, upper-bit, word-of}, std.proofs.Common.rules}
use Rattle.qr_symbol.proofs.words.interleaved.Goals as goal

pub returns : goal.returns
returns c = search (rules, lower-bit, upper-bit, word-of)
