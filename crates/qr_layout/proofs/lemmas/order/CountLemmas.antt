-- The number of places of a square that pass a test is the length of a list that contains just these places, each once.
use Rattle.std.proofs.Common.{◌≡◌, ◌≢◌, ℕ, zero, suc, ◌+◌, ◌<◌, Bool, true, cond, List, [], ◌∷◌, ◌++◌, length, length-append, add-zero, zero-add, refl, sym, ap, ◌∙◌, inl, inr, arith}
use Rattle.std.{proofs.lemmas.{Bool.cases_lt, List.Sums.sum_by_push}, specs.List.{range_with_len, sum_by}}
use Rattle.qr_layout.specs.{declared.region.Module.Module, Order.places_passing}
use Rattle.qr_layout.proofs.lemmas.order.ListLemmas.{Mem, Distinct, Mem-at, All-of-Mem, Mem-append, Mem-left, Mem-right, length-le_members}

-- f 0 + .. + f (n - 1)
abbrev pub sum_below : ℕ → (ℕ → ℕ) → ℕ
sum_below zero f = 0
sum_below (suc n) f = f n + sum_below n f

-- the sum with one more number
range-push : (a n : ℕ) → range_with_len a (suc n) ≡ range_with_len a n ++ (a + n) ∷ []
range-push a zero = rw add-zero refl
range-push a (suc n) = search (arith, range-push (a + 1) n)

-- a sum over the numbers below n
sum-range : (n : ℕ) (f : ℕ → ℕ) → sum_by f (range_with_len 0 n) ≡ sum_below n f
sum-range zero f = refl
sum-range (suc n) f =
    search (arith, zero-add, sum-range n f, ap (λ xs. sum_by f xs) (range-push 0 n) ∙ sum_by_push f (range_with_len 0 n) (0 + n))

-- sums of equal terms are equal
pub sum_below-same : (n : ℕ) (f g : ℕ → ℕ) → ((k : ℕ) → k < n → f k ≡ g k) → sum_below n f ≡ sum_below n g
sum_below-same zero f g e = refl
sum_below-same (suc n) f g e = let b = sum_below-same n f g (λ k l. e k (omega arith)) in omega arith

-- the module at a row and a column
abbrev at : ℕ → ℕ → Module
at r c = record { row = r; col = c }

-- the module passes the test
abbrev Passes : (ℕ → ℕ → Bool) → Module → Type 0
Passes p m = p m.row m.col ≡ true

-- ---- the places row by row

-- the places of row r before column n that pass
row_places : (ℕ → ℕ → Bool) → ℕ → ℕ → List Module
row_places p r zero = []
row_places p r (suc n) = cond (p r n) (at r n ∷ row_places p r n) (row_places p r n)

-- the places of the rows before r that pass
grid_places : (ℕ → ℕ → Bool) → ℕ → ℕ → List Module
grid_places p zero s = []
grid_places p (suc r) s = row_places p r s ++ grid_places p r s

-- the facts of a place of a row in the list
abbrev RowFact : (ℕ → ℕ → Bool) → ℕ → ℕ → Module → Type 0
RowFact p r n m = (m.row ≡ r) × (m.col < n) × Passes p m

-- one more column adds its place, if the place passes
row-cond : (p : ℕ → ℕ → Bool) (r n : ℕ) (t : Bool) (xs : List Module) → (t ≡ true → p r n ≡ true) → ((m : Module) → Mem m xs → RowFact p r n m) → (m : Module) → Mem m (cond t (at r n ∷ xs) xs) → RowFact p r (suc n) m
row-cond p r n t xs i f m k = grind arith

-- each place in the list of a row is in the row and passes
row-facts : (p : ℕ → ℕ → Bool) (r n : ℕ) (m : Module) → Mem m (row_places p r n) → RowFact p r n m
unfolding row_places
row-facts p r zero m k = absurd k
row-facts p r (suc n) m k = row-cond p r n (p r n) (row_places p r n) (λ e. e) (row-facts p r n) m k

-- if the place at one more column passes, it is in the list
row-has-cond : (r n : ℕ) (m : Module) (t : Bool) (xs : List Module) → (m.col ≡ n → t ≡ true) → m.row ≡ r → ((m.col < n) → Mem m xs) → m.col < suc n → Mem m (cond t (at r n ∷ xs) xs)
row-has-cond r n m t xs i e f l = search arith

-- each place of a row that passes is in the list
row-has : (p : ℕ → ℕ → Bool) (r n : ℕ) (m : Module) → RowFact p r n m → Mem m (row_places p r n)
unfolding row_places
row-has p r zero m w = absurd (omega arith)
row-has p r (suc n) m w = row-has-cond r n m (p r n) (row_places p r n) (λ e. (ap (λ z. p z n) (sym w.0) ∙ ap (λ z. p m.row z) (sym e)) ∙ w.2) w.0 (λ l. row-has p r n m (w.0, l, w.2)) w.1

-- one more place of a row was not in the list before
row-distinct-cond : (r n : ℕ) (t : Bool) (xs : List Module) → ((m : Module) → Mem m xs → m.col < n) → Distinct xs → Distinct (cond t (at r n ∷ xs) xs)
row-distinct-cond r n t xs f d = grind (arith, All-of-Mem)

-- no place of a row is in the list twice
row-distinct : (p : ℕ → ℕ → Bool) (r n : ℕ) → Distinct (row_places p r n)
unfolding row_places
row-distinct p r zero = tt
row-distinct p r (suc n) = row-distinct-cond r n (p r n) (row_places p r n) (λ m k. (row-facts p r n m k).1) (row-distinct p r n)

-- the length of the list of a row is its sum
row-length : (p : ℕ → ℕ → Bool) (r n : ℕ) → length (row_places p r n) ≡ sum_below n (λ c. cond (p r c) 1 0)
unfolding row_places
row-length p r zero = refl
row-length p r (suc n) = search (arith, row_places, row-length p r n)

-- the facts of a place of the square in the list
abbrev GridFact : (ℕ → ℕ → Bool) → ℕ → ℕ → Module → Type 0
GridFact p r s m = (m.row < r) × (m.col < s) × Passes p m

-- two lists without repeats and without a common item, joined, have no repeats
Distinct-append : (xs ys : List Module) → Distinct xs → Distinct ys → ((m : Module) → Mem m xs → Mem m ys → ⊥) → Distinct (xs ++ ys)
Distinct-append [] ys d e f = e
Distinct-append (x ∷ xs) ys d e f = (All-of-Mem (λ m. x ≢ m) (xs ++ ys) (λ m k g. elim (Mem-append m xs ys k) [ inl l ↦ Mem-at (λ z. x ≢ z) xs m d.0 l g | inr l ↦ f m (inl g) l ]), Distinct-append xs ys d.1 e (λ m k l. f m (inr k) l))

-- each place in the list of the square is in the square and passes
grid-facts : (p : ℕ → ℕ → Bool) (r s : ℕ) (m : Module) → Mem m (grid_places p r s) → GridFact p r s m
unfolding grid_places
grid-facts p zero s m k = absurd k
grid-facts p (suc r) s m k = elim (Mem-append m (row_places p r s) (grid_places p r s) k) [
  | inl l ↦ let w = row-facts p r s m l in (omega arith, w.1, w.2)
  | inr l ↦ search (arith, grid-facts p r s m l)
]

-- each place of the square that passes is in the list
grid-has : (p : ℕ → ℕ → Bool) (r s : ℕ) (m : Module) → GridFact p r s m → Mem m (grid_places p r s)
unfolding grid_places
grid-has p zero s m w = absurd (omega arith)
grid-has p (suc r) s m w = elim (cases_lt m.row r) [
  | inl l ↦ search (arith, Mem-right, grid-has p r s m (l, w.1, w.2))
  | inr l ↦ Mem-left m (row_places p r s) (grid_places p r s) (row-has p r s m ((omega arith), w.1, w.2))
]

-- no place of the square is in the list twice
grid-distinct : (p : ℕ → ℕ → Bool) (r s : ℕ) → Distinct (grid_places p r s)
unfolding grid_places
grid-distinct p zero s = tt
grid-distinct p (suc r) s = Distinct-append (row_places p r s) (grid_places p r s) (row-distinct p r s) (grid-distinct p r s) (λ m k l. let a = (row-facts p r s m k).0 in let b = (grid-facts p r s m l).0 in absurd (omega arith))

-- the length of the list of the square is the double sum
grid-length : (p : ℕ → ℕ → Bool) (r s : ℕ) → length (grid_places p r s) ≡ sum_below r (λ k. sum_below s (λ c. cond (p k c) 1 0))
unfolding grid_places
grid-length p zero s = refl
grid-length p (suc r) s = search (arith, length-append, row-length, grid-length p r s)

-- the number of places that pass, as a double sum
pub places-sum : (s : ℕ) (p : ℕ → ℕ → Bool) → places_passing s p ≡ sum_below s (λ r. sum_below s (λ c. cond (p r c) 1 0))
unfolding places_passing
places-sum s p = search (arith, sum-range, sum_below-same)

-- the length of a list of the places that pass, each once, is the count
pub count-of : (s : ℕ) (p : ℕ → ℕ → Bool) (ms : List Module) → Distinct ms → ((m : Module) → Mem m ms → (m.row < s) × (m.col < s) × (p m.row m.col ≡ true)) → ((m : Module) → m.row < s → m.col < s → p m.row m.col ≡ true → Mem m ms) → length ms ≡ places_passing s p
count-of s p ms d f g =
    search (arith, length-le_members, grid_places, grid-distinct, grid-facts, grid-length, places-sum, length-le_members ms (grid_places p s s) d (λ m k. grid-has p s s m (f m k)))
