-- The lemmas that the attributes of functions name.
use Rattle.qr_scanning.proofs.lemmas.reading.{place-in, sum-more}

-- the next modules of the timing patterns
pub ruleset timing_facts = (place-in, sum-more)
