-- Masks repeat after twelve rows and six columns.
use borrow.Author.Tests.{ltb-true}
use Rattle.qr_matrix.{proofs.Facts.{below-at, same-same, &&-left, &&-right}, specs.{BitRow.has_bit, Grid.is_same}}
use Rattle.{qr_matrix.specs.Sums.all_below, qr_symbol.specs.{Mask.inverts, declared.mask.TheConstants.PATTERNS}}
use Rattle.std.proofs.{Common.{◌≡◌, ℕ, zero, suc, ◌*◌, ◌%◌, ◌<◌, Bool, true, ◌&&◌, ltb, get_or, [], refl, ◌∙◌, arith}, lemmas.Nat.mul-mod}

-- the parity of the product of row and column depends only on the row modulo 12 and the column modulo 6
parity : (r c : ℕ) → r * c % 2 ≡ (r % 12) * (c % 6) % 2
parity r c = grind (arith, mul-mod)

-- the product of row and column modulo three depends only on the row modulo 12 and the column modulo 6
thirds : (r c : ℕ) → r * c % 3 ≡ (r % 12) * (c % 6) % 3
thirds r c = grind (arith, mul-mod)

-- a mask inverts alike in places that are twelve rows or six columns apart
pub inverts-repeats : (mask r c : ℕ) → mask < 8 → inverts mask r c ≡ inverts mask (r % 12) (c % 6)
unfolding inverts
inverts-repeats (suc (suc (suc (suc (suc zero))))) r c k = cc (parity r c, thirds r c)
inverts-repeats (suc (suc (suc (suc (suc (suc zero)))))) r c k = cc (parity r c, thirds r c)
inverts-repeats (suc (suc (suc (suc (suc (suc (suc zero))))))) r c k = search (arith, thirds)
inverts-repeats (suc (suc (suc (suc (suc (suc (suc (suc mask)))))))) r c k = absurd (omega arith)
inverts-repeats mask r c k = search arith

-- the table's entry for a mask and one of the first twelve rows
abbrev entry : ℕ → ℕ → ℕ
entry mask r = get_or (get_or PATTERNS mask []) r 0

-- the test that an entry has six bits and says where the mask inverts in its row
entry-is : ℕ → ℕ → Bool
entry-is mask r = ltb (entry mask r) 64 && all_below 6 (λ c. is_same (has_bit (entry mask r) c) (inverts mask r c))

-- each entry passes the test, computed
all-entries : all_below 8 (λ mask. all_below 12 (entry-is mask)) ≡ true
unfolding entry-is has_bit inverts
all-entries = refl

-- one entry passes the test
entry-at : (mask r : ℕ) → mask < 8 → r < 12 → entry-is mask r ≡ true
entry-at mask r l m = below-at 12 (entry-is _) (below-at 8 (λ mask. all_below 12 (entry-is mask)) all-entries _ l) r m

-- an entry has six bits
pub pattern-small : (mask r : ℕ) → mask < 8 → r < 12 → get_or (get_or PATTERNS mask []) r 0 < 64
unfolding entry-is
pattern-small mask r l m = search (arith, ltb-true, &&-left, entry-at)

-- an entry says where its mask inverts
pub pattern-is : (mask row r c : ℕ) → mask < 8 → r ≡ row % 12 → has_bit (get_or (get_or PATTERNS mask []) r 0) (c % 6) ≡ inverts mask row c
unfolding entry-is
pattern-is mask row r c l e =
    same-same _ _ (below-at 6 (λ k. is_same (has_bit (entry mask r) k) (inverts mask r k)) (&&-right _ _ (entry-at _ r l (omega arith))) _ (omega arith))
    ∙ (search (arith, inverts-repeats))
