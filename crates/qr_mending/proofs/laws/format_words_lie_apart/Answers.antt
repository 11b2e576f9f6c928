use Rattle.{qr_layout.specs.Format.{format_word_of, word_remainder}, qr_matrix.specs.BitRow.has_bit, qr_mending.proofs.lemmas.format.{costs-apart, words-apart}}
use Rattle.std.proofs.Common.{refl}
use Rattle.qr_mending.proofs.laws.format_words_lie_apart.Goals as goal

pub returns : goal.returns
unfolding format_word_of word_remainder has_bit
returns c = record { words = words-apart; least = refl; costs = costs-apart }
