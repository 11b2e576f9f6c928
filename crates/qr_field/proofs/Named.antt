-- The lemmas that attributes of functions name.
use Rattle.qr_field.proofs.lemmas.{galois.ByteLemmas.product-of_zero, laws.DistanceLemmas.{erasures-read, errors-read}, register.halves-rest}
use Rattle.qr_field.proofs.lemmas.{galois.PowerLemmas.{powers-at, product-of_powers}, polynomial.PolynomialLemmas.{generator-next, length-carried, power-next}}

pub ruleset quotients = (product-of_zero, product-of_powers)

pub ruleset powers = (powers-at)

pub ruleset generators = (generator-next, length-carried, power-next)

pub ruleset register_halves = (halves-rest)

pub ruleset damage = (erasures-read, errors-read)
