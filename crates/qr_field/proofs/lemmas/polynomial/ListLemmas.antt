-- Lists of coefficients: their sums, lengths and products.
use Rattle.std.proofs.Common.{◌≡◌, ℕ, zero, suc, ◌+◌, ◌<◌, ◌≤◌, List, [], ◌∷◌, ◌++◌, length, take, refl, ap, arith, bit_xor, lit<, ltb, true}
use Rattle.std.proofs.lemmas.{Bool.and_parts, Nat.{xor_comm, xor_of_8}, List.{length-map, length-take}}
use Rattle.std.{proofs.lemmas.List.Elements.{All-map, All-nil, All-cons, All-head, All-tail}, specs.{List.{All, list_all}, Int.Bits.{xor_assoc, xor_zero_r}}}
use borrow.Author.Tests.{ltb-true}
use Rattle.qr_field.specs.{Galois.product, Polynomial.{IsByte, plus, zeros, scaled, times}}
use Rattle.qr_field.proofs.lemmas.galois.{BitLemmas.xor-cancel, ProductLemmas.product-lt}

-- ---- sums

-- a sum in either order
plus-comm : (xs ys : List ℕ) → plus xs ys ≡ plus ys xs
plus-comm [] [] = refl
plus-comm [] (y ∷ ys) = refl
plus-comm (x ∷ xs) [] = refl
plus-comm (x ∷ xs) (y ∷ ys) = let e = xor_comm x y in let f = plus-comm xs ys in cc

-- a sum of three
plus_assoc : (xs ys zs : List ℕ) → plus (plus xs ys) zs ≡ plus xs (plus ys zs)
plus_assoc [] ys zs = refl
plus_assoc (x ∷ xs) [] zs = refl
plus_assoc (x ∷ xs) (y ∷ ys) [] = refl
plus_assoc (x ∷ xs) (y ∷ ys) (z ∷ zs) = cc (xor_assoc x y z, plus_assoc xs ys zs)

-- zeros change nothing
pub plus-zeros : (xs : List ℕ) (k : ℕ) → k ≤ length xs → plus xs (zeros k) ≡ xs
plus-zeros [] zero l = refl
plus-zeros [] (suc k) l = absurd (omega arith)
plus-zeros (x ∷ xs) zero l = refl
plus-zeros (x ∷ xs) (suc k) l = cc (xor_zero_r x, plus-zeros xs k (omega arith))

-- a sum is as long as its longer list
pub length-plus : (xs ys : List ℕ) → length xs ≤ length ys → length (plus xs ys) ≡ length ys
length-plus [] ys l = refl
length-plus (x ∷ xs) [] l = absurd (omega arith)
length-plus (x ∷ xs) (y ∷ ys) l = ap suc (length-plus xs ys (omega arith))

-- lists of one length are summed part by part
pub plus-append : (xs ys us vs : List ℕ) → length xs ≡ length ys → plus (xs ++ us) (ys ++ vs) ≡ plus xs ys ++ plus us vs
plus-append [] [] us vs e = refl
plus-append [] (y ∷ ys) us vs e = absurd (omega arith)
plus-append (x ∷ xs) [] us vs e = absurd (omega arith)
plus-append (x ∷ xs) (y ∷ ys) us vs e = cc (plus-append xs ys us vs (omega arith))

-- what follows a sum
plus-snoc : (xs ys zs : List ℕ) → length xs ≤ length ys → plus xs (ys ++ zs) ≡ plus xs ys ++ zs
plus-snoc [] ys zs l = refl
plus-snoc (x ∷ xs) [] zs l = absurd (omega arith)
plus-snoc (x ∷ xs) (y ∷ ys) zs l = cc (plus-snoc xs ys zs (omega arith))

-- what is added twice is gone
plus-cancel : (xs ys : List ℕ) → length xs ≤ length ys → plus xs (plus xs ys) ≡ ys
plus-cancel [] ys l = refl
plus-cancel (x ∷ xs) [] l = absurd (omega arith)
plus-cancel (x ∷ xs) (y ∷ ys) l = cc (xor-cancel x y, plus-cancel xs ys (omega arith))

-- the front of a sum
pub take-plus : (n : ℕ) (xs ys : List ℕ) → take n (plus xs ys) ≡ plus (take n xs) (take n ys)
take-plus zero xs ys = refl
take-plus (suc n) [] ys = refl
take-plus (suc n) (x ∷ xs) [] = refl
take-plus (suc n) (x ∷ xs) (y ∷ ys) = ap (λ z. bit_xor x y ∷ z) (take-plus n xs ys)

-- one list added to two: where the sums agree, the two agree
pub same-plus : (n : ℕ) (xs ys zs : List ℕ) → n ≤ length ys → n ≤ length zs →
    take n (plus xs ys) ≡ take n (plus xs zs) → take n ys ≡ take n zs
same-plus n xs ys zs l m e =
    let a = length-take n xs in
    let d = length-take n zs in
    cc (take-plus n xs ys, take-plus n xs zs, plus-cancel (take n xs) (take n ys) (omega (arith, a, (length-take n ys))), plus-cancel (take n xs) (take n zs) (omega (arith, a, d)))

-- ---- bytes

-- a list is a list of bytes if a test computes so
pub bytes-computed : (xs : List ℕ) → list_all (λ x. ltb x 256) xs ≡ true → All IsByte xs
bytes-computed [] h = All-nil IsByte
bytes-computed (x ∷ xs) h =
    search (arith, All-cons, ltb-true, and_parts, bytes-computed xs (and_parts (ltb x 256) _ h).1)

-- zeros are bytes
pub bytes-zeros : (k : ℕ) → All IsByte (zeros k)
bytes-zeros zero = All-nil IsByte
bytes-zeros (suc k) = All-cons IsByte 0 (zeros k) (lit< tt) (bytes-zeros k)

-- a sum of bytes
pub bytes-plus : (xs ys : List ℕ) → All IsByte xs → All IsByte ys → All IsByte (plus xs ys)
bytes-plus [] ys a b = b
bytes-plus (x ∷ xs) [] a b = a
bytes-plus (x ∷ xs) (y ∷ ys) a b =
    search (arith, xor_of_8, All-head, All-cons, All-tail, bytes-plus xs ys (All-tail IsByte x xs a) (All-tail IsByte y ys b))

-- a multiple of a list has bytes
pub bytes-scaled : (a : ℕ) (xs : List ℕ) → a < 256 → All IsByte (scaled a xs)
bytes-scaled a xs l = search (arith, All-map, product-lt)

-- ---- products

-- a list of k zeros has length k
pub length-zeros : (k : ℕ) → length (zeros k) ≡ k
length-zeros zero = refl
length-zeros (suc k) = ap suc (length-zeros k)

-- the length of a product
pub length-times : (q : List ℕ) (a : ℕ) (g : List ℕ) → length (times q (a ∷ g)) ≡ length q + length g
length-times [] a g = search (arith, length-zeros)
length-times (b ∷ q) a g = search (arith, length-map, length-plus, length-times q a g)

-- one zero more
snoc-zeros : (k : ℕ) → zeros k ++ 0 ∷ [] ≡ zeros (suc k)
snoc-zeros zero = refl
snoc-zeros (suc k) = ap (λ z. 0 ∷ z) (snoc-zeros k)

-- one more coefficient of the quotient
pub times-snoc : (q : List ℕ) (f a : ℕ) (g : List ℕ) →
    times (q ++ f ∷ []) (a ∷ g) ≡ plus (times q (a ∷ g) ++ 0 ∷ []) (zeros (length q) ++ scaled f (a ∷ g))
times-snoc [] f a g = search (arith, length-map, snoc-zeros, plus-comm)
times-snoc (b ∷ q) f a g =
    let ih = times-snoc q f a g in
    let first = scaled b (a ∷ g) in
    let middle : List ℕ = 0 ∷ times q (a ∷ g) in
    cc (plus_assoc first (middle ++ 0 ∷ []) (0 ∷ (zeros (length q) ++ scaled f (a ∷ g))), plus-snoc first middle (0 ∷ []) (omega (arith, length-map (a ∷ g) (product b), length-times q a g)))
