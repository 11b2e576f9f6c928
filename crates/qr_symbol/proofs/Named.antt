-- The lemmas that the attributes of functions name.
use Rattle.{qr_layout.proofs.Facts.blocks-sound, std.proofs.lemmas.Bool.Decides.nat_tests}
use Rattle.qr_symbol.proofs.lemmas.interleaving.{CheckLemmas.slice-in, MessageLemmas.data-sizes-whole, PositionLemmas.{start-next, start-none}}
use Rattle.qr_symbol.proofs.lemmas.words.{BitLemmas.set-bit, SplitLemmas.{all-exchanged-bit, exchanged-bit}}
use Rattle.qr_symbol.proofs.lemmas.{reading.ReadLemmas.read-grid, series.{PartExistenceLemmas.parts-there, PartLemmas.part-least}}

-- Bits of words and of codewords.
pub ruleset word_bits = (nat_tests, set-bit)

-- Bits of a word that are exchanged.
pub ruleset exchanges = (exchanged-bit, all-exchanged-bit)

-- Messages and their blocks.
pub ruleset slices = (slice-in)

pub ruleset messages = (blocks-sound)

-- Laws.
pub ruleset laws_of_blocks = (start-none, start-next, data-sizes-whole)

pub ruleset laws_of_parts = (part-least, parts-there)

pub ruleset laws_of_reading = (read-grid)
