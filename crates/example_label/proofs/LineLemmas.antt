-- Lines that are added one after another.
use Rattle.std.proofs.Common.{◌≡◌, ℕ, zero, suc, ◌+◌, List, ◌++◌, append_assoc, sym, ap, ◌∙◌, arith}
use Rattle.std.{proofs.lemmas.List.append-nil, specs.List.{flat_map, range_with_len}}

-- one line more
pub flat-more : (f : ℕ → List ℕ) (a n : ℕ) → flat_map f (range_with_len a (suc n)) ≡ flat_map f (range_with_len a n) ++ f (a + n)
flat-more f a zero = let same : a ≡ a + 0 = omega arith in append-nil (f a) ∙ ap f same
flat-more f a (suc n) =
    let same : a + 1 + n ≡ a + suc n = omega arith in
    ap (λ (xs : List ℕ). f a ++ xs) (flat-more f (a + 1) n)
    ∙ (sym (append_assoc (f a) (flat_map f (range_with_len (a + 1) n)) (f (a + 1 + n))) ∙ ap (λ (k : ℕ). (f a ++ flat_map f (range_with_len (a + 1) n)) ++ f k) same)
