-- Lists with the same members: their lengths, and that only one such list is rising.
use Rattle.std.proofs.Common.{◌≡◌, ◌≢◌, zero, suc, ◌≤◌, List, [], ◌∷◌, ◌++◌, length, refl, sym, ap, subst, inl, inr, ◌⊎◌, arith}
use Rattle.std.specs.List.{All, AllPairs, AllByRecursion, Contains}

-- x is in the list
abbrev pub Mem : {X : Type 0} → X → List X → Type 0
Mem x [] = ⊥
Mem x (y ∷ ys) = (y ≡ x) ⊎ Mem x ys

-- each item is in the relation to all later ones
abbrev pub Rises : {X : Type 0} → (X → X → Type 0) → List X → Type 0
Rises R [] = Unit {0}
Rises R (x ∷ xs) = AllByRecursion (R x) xs × Rises R xs

-- no item is in the list twice
abbrev pub Distinct : {X : Type 0} → List X → Type 0
Distinct {X} xs = Rises {X = X} (λ x y. x ≢ y) xs

-- a property of each item is a property of an item that is in the list
pub Mem-at : {X : Type 0} (P : X → Type 0) (xs : List X) (x : X) → AllByRecursion P xs → Mem x xs → P x
Mem-at P [] x h m = absurd m
Mem-at P (y ∷ ys) x h (inl e) = subst P e h.0
Mem-at P (y ∷ ys) x h (inr m) = Mem-at P ys x h.1 m

-- a property of every x that is in the list is a property of each item
pub All-of-Mem : {X : Type 0} (P : X → Type 0) (xs : List X) → ((x : X) → Mem x xs → P x) → AllByRecursion P xs
All-of-Mem P [] f = tt
All-of-Mem P (x ∷ xs) f = (f x (inl refl), All-of-Mem P xs (λ y m. f y (inr m)))

-- ---- lengths

-- an item of two joined lists is in one of them
pub Mem-append : {X : Type 0} (z : X) (xs ys : List X) → Mem z (xs ++ ys) → Mem z xs ⊎ Mem z ys
Mem-append z [] ys m = inr m
Mem-append z (x ∷ xs) ys (inl e) = inl (inl e)
Mem-append z (x ∷ xs) ys (inr m) = search (arith, Mem-append z xs ys m)

-- an item of the first list is in the joined lists
pub Mem-left : {X : Type 0} (z : X) (xs ys : List X) → Mem z xs → Mem z (xs ++ ys)
Mem-left z [] ys m = absurd m
Mem-left z (x ∷ xs) ys (inl e) = inl e
Mem-left z (x ∷ xs) ys (inr m) = inr (Mem-left z xs ys m)

-- an item of the second list is in the joined lists
pub Mem-right : {X : Type 0} (z : X) (xs ys : List X) → Mem z ys → Mem z (xs ++ ys)
Mem-right z [] ys m = m
Mem-right z (x ∷ xs) ys m = inr (Mem-right z xs ys m)

-- a list cut at one of its items
abbrev pub Split : {X : Type 0} → X → List X → Type 0
Split {X} x ys = (front : List X) × (back : List X) × (ys ≡ front ++ x ∷ back)

-- a list that contains x, cut at x
pub split : {X : Type 0} (x : X) (ys : List X) → Mem x ys → Split x ys
split x [] m = absurd m
split x (y ∷ ys) (inl e) = ([], ys, ap (λ z. z ∷ ys) e)
split x (y ∷ ys) (inr m) = let w = split x ys m in (y ∷ w.0, w.1, ap (λ zs. y ∷ zs) w.2)

-- a list without x still contains all other items
Mem-other : {X : Type 0} (x z : X) (front back : List X) → x ≢ z → Mem z (front ++ x ∷ back) → Mem z (front ++ back)
Mem-other x z front back n m = elim (Mem-append z front (x ∷ back) m) [
  | inl k ↦ Mem-left z front back k
  | inr k ↦ search (arith, Mem-right)
]

-- one item more makes a list longer by one
pub length-mid : {X : Type 0} (x : X) (front back : List X) → length (front ++ x ∷ back) ≡ suc (length (front ++ back))
length-mid x [] back = refl
length-mid x (y ∷ ys) back = ap suc (length-mid x ys back)

-- a list without repeats is no longer than a list that contains all its items
pub length-le_members : {X : Type 0} (xs ys : List X) → Distinct xs → ((x : X) → Mem x xs → Mem x ys) → length xs ≤ length ys
length-le_members [] ys d f = omega arith
length-le_members (x ∷ xs) ys d f =
    let w = split x ys (f x (inl refl)) in
    search (arith, length-mid, length-le_members xs (w.0 ++ w.1) d.1 (λ z m. Mem-other x z w.0 w.1 (Mem-at (λ y. x ≢ y) xs z d.0 m) (subst (λ zs. Mem z zs) w.2 (f z (inr m)))))

-- an item that a list contains is in the list
pub Mem-of-Contains : {X : Type 0} (xs : List X) (x : X) → Contains xs x → Mem x xs
Mem-of-Contains [] x (k, l, e) = absurd (omega arith)
Mem-of-Contains (y ∷ ys) x (zero, l, e) = inl e
Mem-of-Contains (y ∷ ys) x (suc k, l, e) = inr (Mem-of-Contains ys x (k, omega arith, e))

-- a property of each item, by recursion on the list
pub All-rec : {X : Type 0} (P : X → Type 0) (xs : List X) → All P xs → AllByRecursion P xs
All-rec P [] h = tt
All-rec P (x ∷ xs) h = (h 0 x (omega arith), All-rec P xs (λ k d l. h (suc k) d (omega arith)))

-- ---- one rising list

-- the relation of all pairs, by recursion on the list
pub Rises-of-pairs : {X : Type 0} (R : X → X → Type 0) (xs : List X) → AllPairs R xs → Rises R xs
Rises-of-pairs R [] h = tt
Rises-of-pairs R (x ∷ xs) h = (All-rec (R x) xs (λ k d l. h 0 (suc k) d (omega arith) (omega arith)), Rises-of-pairs R xs (λ i j d k l. h (suc i) (suc j) d (omega arith) (omega arith)))

-- each item of the first list is in the second
abbrev pub AllIn : {X : Type 0} → List X → List X → Type 0
AllIn {X} xs ys = (x : X) → Mem x xs → Mem x ys

-- two rising lists with the same items are equal
pub one-rising : {X : Type 0} (R : X → X → Type 0) → ((x y : X) → R x y → R y x → ⊥) → (xs ys : List X) → Rises R xs → Rises R ys → AllIn xs ys → AllIn ys xs → xs ≡ ys
one-rising R a [] [] r s f g = refl
one-rising R a [] (y ∷ ys) r s f g = absurd (g y (inl refl))
one-rising R a (x ∷ xs) [] r s f g = absurd (f x (inl refl))
one-rising R a (x ∷ xs) (y ∷ ys) r s f g =
    let e : y ≡ x = elim (f x (inl refl)) [
      | inl e ↦ e
      | inr m ↦ elim (g y (inl refl)) [ inl e ↦ sym e | inr n ↦ search (arith, Mem-at) ]
    ] in
    λ i. sym e i ∷ (one-rising R a xs ys r.1 s.1 (λ z m. elim (f z (inr m)) [ inl k ↦ search (arith, Mem-at) | inr n ↦ n ]) (λ z m. elim (g z (inr m)) [ inl k ↦ search (arith, Mem-at) | inr n ↦ n ])) i
