-- Bit operations on neighbouring rows compute the tests of all columns at once.
use Rattle.qr_matrix.proofs.lemmas.{bit_row.SumLemmas.{count_below-same, count_below-cut, sum_below-same, sum_below-swap}, runs.ChargeLemmas.charged-cost}
use Rattle.qr_matrix.specs.{BitRow.{has, has_bit, bit_row_number}, Grid.is_same, Runs.{joins, place_cost}, Steps.{is_charged, row_share, set_count}}
use Rattle.qr_matrix.specs.Sums.{count_below, sum_below}
use Rattle.std.proofs.Common.{◌≡◌, ℕ, ◌+◌, ◌<◌, ◌≤◌, [], ◌∷◌, eqb, ltb, Bool, true, false, not, ◌&&◌, ◌||◌, cond, ap, ◌∙◌, arith}
use Rattle.std.proofs.lemmas.{Bool.Decides.nat_tests, Nat.Bits.bit_at-zero}

-- the bit row of zeros has no bit set
pub has-nothing : (c : ℕ) → has (0 ∷ 0 ∷ 0 ∷ []) c ≡ false
unfolding has bit_row_number has_bit
has-nothing c = ap (λ z. eqb z 1) (bit_at-zero c)

-- a bit that is set in the columns whose place does not differ from that below it is set where they are joined
pub joins-down-bit : (s : ℕ) (line : ℕ → Bool) (c r : ℕ) (x i d y z : Bool) → r + 1 < s → x ≡ (i && not d) → i ≡ ltb c s → d ≡ not (is_same y z) → y ≡ line r → z ≡ line (r + 1) → x ≡ (ltb c s && joins s line r)
unfolding joins
joins-down-bit s line c r x i d y z h e f g k l = search (arith, nat_tests)

-- a test that column c is below s fails from s on
past : (s c : ℕ) (b : Bool) → s ≤ c → (ltb c s && b) ≡ false
past s c b h = search (arith, nat_tests)

-- a test that fails from s on is the same as this test together with the test that c is below s
pub guarded : (s c : ℕ) (b : Bool) → (s ≤ c → b ≡ false) → b ≡ (ltb c s && b)
guarded s c b h = search (arith, nat_tests, past)

-- the guard u of three tests, of which the last two have the guards t and w too, is the guard of their disjunction
pub guarded-three : (u t w f g h : Bool) → (((u && f) || (t && (u && g))) || (w && (u && h))) ≡ (u && ((f || (t && g)) || (w && h)))
guarded-three u t w f g h = grind (arith, nat_tests)

-- as many numbers below 192 pass a test that is guarded by `below s` as numbers below s pass it
guarded-count : (s : ℕ) (t p : ℕ → Bool) → s ≤ 192 → ((c : ℕ) → t c ≡ (ltb c s && p c)) → count_below 192 t ≡ count_below s p
guarded-count s t p l h =
    count_below-cut 192 s t (λ c. ltb c s && p c) l (λ c k. h c) (λ c k. past s c (p c) k)
    ∙ count_below-same s (λ c. ltb c s && p c) p (λ c k. let e : ltb c s ≡ true = grind (arith, nat_tests) in ap (λ z. z && p c) e)

-- a bit row whose bits are such a test has as many set bits as numbers below s pass it
pub guarded-size : (s : ℕ) (bit p : ℕ → Bool) → s ≤ 192 → ((c : ℕ) → bit c ≡ (ltb c s && p c)) → set_count bit ≡ count_below s p
unfolding set_count
guarded-size s bit p l h = guarded-count s bit p l h

-- the shares of all rows sum to the costs of all columns
pub shares-are-columns : (s : ℕ) (dark : ℕ → ℕ → Bool) → sum_below s (row_share s dark) ≡ sum_below s (λ c. place_cost s (λ r. dark r c))
unfolding row_share
shares-are-columns s dark =
    sum_below-swap s s (λ r c. cond (is_charged s (λ i. dark i c) r) 1 0)
    ∙ sum_below-same s (λ c. count_below s (is_charged s (λ i. dark i c))) (λ c. place_cost s (λ r. dark r c)) (λ c _. charged-cost s (λ r. dark r c))
