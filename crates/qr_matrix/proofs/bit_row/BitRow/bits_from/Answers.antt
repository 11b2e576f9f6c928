use Rattle.{qr_matrix.proofs.lemmas.bit_row.PlaceLemmas.{has-place, has_bit-shr, words-small}, std.proofs.Common.{rules, get_or}}
use Rattle.qr_matrix.proofs.bit_row.BitRow.bits_from.Goals as goal

pub returns : goal.returns
returns c = search (rules, has-place, words-small, has_bit-shr, get_or)
