-- The bits of rows that are added column by column.
use Rattle.std.proofs.{Common.{◌≡◌, ℕ, zero, suc, ◌+◌, ◌*◌, ◌≤◌, ltb, Bool, false, not, ◌&&◌, cond, refl, arith}, lemmas.Bool.Decides.nat_tests}
use Rattle.qr_matrix.{specs.{Grid.is_same, Steps.set_count, Sums.count_below}, proofs.lemmas.bit_row.SumLemmas.count_below-cut}

-- the sum of three bits, by its two digits
digits : (a b d s t : Bool) → s ≡ not (is_same (not (is_same a b)) d) → t ≡ not (is_same (not (is_same a b) && not (is_same a d)) a) → cond a 1 0 + cond b 1 0 + cond d 1 0 ≡ cond s 1 0 + 2 * cond t 1 0
digits a b d s t e f = grind (arith, nat_tests)

-- if s and t are the two digits of the sum of a, b and d in each column, they have as many bits
pub sum-digits : (a b d s t : ℕ → Bool) → ((c : ℕ) → s c ≡ not (is_same (not (is_same (a c) (b c))) (d c))) → ((c : ℕ) → t c ≡ not (is_same (not (is_same (a c) (b c)) && not (is_same (a c) (d c))) (a c)))
    → set_count a + set_count b + set_count d ≡ set_count s + 2 * set_count t
unfolding set_count
sum-digits a b d s t hs ht = below 192
  where
    below : (n : ℕ) → count_below n a + count_below n b + count_below n d ≡ count_below n s + 2 * count_below n t
    below zero = refl
    below (suc n) = let e = digits (a n) (b n) (d n) (s n) (t n) (hs n) (ht n) in let rest = below n in omega arith

-- a row has at most 192 bits
pub set_count-most : (bit : ℕ → Bool) → set_count bit ≤ 192
unfolding set_count
set_count-most bit = most 192
  where
    one : (b : Bool) → cond b 1 0 ≤ 1
    one b = grind (arith, nat_tests)

    most : (n : ℕ) → count_below n bit ≤ n
    most zero = omega arith
    most (suc n) = let e = one (bit n) in let rest = most n in omega arith

-- no column is left of column 0
pub never : (c : ℕ) → ltb c 0 ≡ false
never c = grind (arith, nat_tests)

-- a row without bits has none to count
pub none-of : (bit : ℕ → Bool) → ((c : ℕ) → bit c ≡ false) → set_count bit ≡ 0
unfolding set_count
none-of bit h = search (arith, count_below-cut)
