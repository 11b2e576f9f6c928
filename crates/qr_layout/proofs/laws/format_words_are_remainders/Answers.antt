use Rattle.qr_layout.proofs.lemmas.format.WordLemmas.{format-word-remainder}
use Rattle.qr_layout.proofs.laws.format_words_are_remainders.Goals as goal

pub returns : goal.returns
returns c = format-word-remainder c.args.level c.args.mask
