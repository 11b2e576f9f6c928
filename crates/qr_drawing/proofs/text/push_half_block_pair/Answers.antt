use Rattle.{qr_drawing.proofs.lemmas.text.CellLemmas.pair-at, std.proofs.Common.rules}
use Rattle.qr_drawing.proofs.text.push_half_block_pair.Goals as goal

pub returns : goal.returns
returns c = search (rules, pair-at)
