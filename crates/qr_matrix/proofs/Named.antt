-- The lemmas that the attributes of functions name.
use Rattle.qr_matrix.proofs.lemmas.{bit_row.PlaceLemmas.{at-step, eight-step, words-small}, matrix.TranspositionLemmas.{word-put, word-read}}
use Rattle.qr_matrix.proofs.lemmas.matrix.MatrixLemmas.{dark-replicate, light-square, row-read, rows-long}

-- reading and writing parts of a bit row
pub ruleset bit_row_facts = (at-step, eight-step, word-read, word-put, words-small)

-- reading a row of modules
pub ruleset row_facts = (row-read)

-- a new square of light modules
pub ruleset light_facts = (dark-replicate, light-square, rows-long)
