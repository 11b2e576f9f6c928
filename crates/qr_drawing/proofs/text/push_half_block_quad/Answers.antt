use Rattle.{qr_drawing.proofs.lemmas.text.CellLemmas.{half-block-pairs, room-pair}, std.proofs.Common.rules}
use Rattle.qr_drawing.proofs.text.push_half_block_quad.Goals as goal

pub push_half_block_pair-requires-2-clause-room : goal.push_half_block_pair-requires-2-clause-room
push_half_block_pair-requires-2-clause-room c = search (rules, room-pair)

pub returns : goal.returns
returns c = search (rules, half-block-pairs)
