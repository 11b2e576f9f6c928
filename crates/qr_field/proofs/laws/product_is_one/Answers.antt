use Rattle.qr_field.proofs.lemmas.galois.ProductLemmas.{product-is, product-one}
use Rattle.qr_field.proofs.laws.product_is_one.Goals as goal

pub returns-clause-named : goal.returns-clause-named
returns-clause-named c = λ a b l _. product-is a b l

pub returns-clause-only : goal.returns-clause-only
returns-clause-only c = product-one
