use Rattle.std.{proofs.{Common.{◌≡◌, ℕ, Bool, true, ltb, List, [], ◌∷◌, map, get_or, refl, sym, ◌∙◌}, lemmas.Bool.and_parts}, specs.List.list_all}
use borrow.Author.Tests.{ltb-true}
use Rattle.qr_field.{specs.{Galois.{product, remainder_of, carryless}, declared.galois.TheConstants.POWERS}, proofs.lemmas.galois.PowerLemmas.powers-at}
use Rattle.qr_field.specs.{Polynomial.power, Laws.printed_exponents}
use Rattle.qr_field.proofs.laws.generators_compute.Goals as goal

pub returns-clause-seven : goal.returns-clause-seven
unfolding product remainder_of carryless
returns-clause-seven c = refl

-- the power of 2 to i, looked up
looked_up : ℕ → ℕ
looked_up i = get_or POWERS i 0

-- the exponents are below 255
are_small : List ℕ → Bool
are_small es = list_all (λ i. ltb i 255) es

-- powers of 2 can be looked up
powers-of : (es : List ℕ) → are_small es ≡ true → map power es ≡ map looked_up es
unfolding are_small looked_up
powers-of [] h = refl
powers-of (e ∷ es) h = cc (powers-at e (ltb-true e 255 (and_parts _ (are_small es) h).0), powers-of es (and_parts (ltb e 255) _ h).1)

powers-of-all : (ess : List (List ℕ)) → list_all are_small ess ≡ true → map (map power) ess ≡ map (map looked_up) ess
powers-of-all [] h = refl
powers-of-all (es ∷ ess) h = cc (powers-of es (and_parts _ (list_all are_small ess) h).0, powers-of-all ess (and_parts (are_small es) _ h).1)

pub returns-clause-printed : goal.returns-clause-printed
unfolding product remainder_of carryless are_small looked_up
returns-clause-printed c =
    refl ∙ sym (powers-of-all printed_exponents refl)
