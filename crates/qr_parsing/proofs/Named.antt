-- The lemmas that the attributes of functions name.
use Rattle.qr_parsing.proofs.lemmas.sheet.{small}

-- Indices of bytes.
pub ruleset index_facts = (small)
