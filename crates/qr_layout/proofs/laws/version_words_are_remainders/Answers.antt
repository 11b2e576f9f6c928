use Rattle.{std.proofs.Common.arith, qr_layout.proofs.lemmas.format.WordLemmas.version-word-remainder}
use Rattle.qr_layout.proofs.laws.version_words_are_remainders.Goals as goal

pub returns : goal.returns
returns c = version-word-remainder c.args.version (omega arith)
