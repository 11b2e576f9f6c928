-- The lemmas that the attributes of functions name.
use Rattle.qr_theorems.proofs.lemmas.laws.{DistanceLemmas.symbols-apart, MessageLemmas.messages-apart}

pub ruleset distances = (messages-apart, symbols-apart)
