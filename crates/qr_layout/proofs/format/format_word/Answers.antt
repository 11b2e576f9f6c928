use Rattle.{qr_layout.proofs.{format.format_word.Goals.{in-L, in-M, in-Q, in-H}, lemmas.format.WordLemmas.format-at}, std.proofs.Common.rules}
use Rattle.qr_layout.proofs.format.format_word.Goals as goal

pub returns : goal.returns
returns c = search (rules, in-L, in-M, in-Q, in-H, format-at)
