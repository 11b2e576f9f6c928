-- Conjunctions and negations of tests.
use Rattle.std.proofs.Common.{◌≡◌, Bool, false, ◌&&◌, ◌||◌, refl, sym, subst, arith}

-- a conjunction with a second part that is false is false
pub and-false : (a b : Bool) → b ≡ false → (a && b) ≡ false
and-false a b e = grind arith

-- a conjunction with a first part that is false is false
pub false-and : (a b : Bool) → a ≡ false → (a && b) ≡ false
false-and a b e = subst (λ z. (z && b) ≡ false) (sym e) refl

-- a disjunction with a part that is false is the other part
pub or-false : (a : Bool) → (a || false) ≡ a
or-false a = grind arith
