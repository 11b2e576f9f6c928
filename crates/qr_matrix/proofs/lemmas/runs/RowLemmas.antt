-- Bit operations on a bit row compute the tests of a row. A module is joined if the module after it has its colour.
use Rattle.std.proofs.{Common.{◌≡◌, ℕ, ◌+◌, ◌-◌, ◌<◌, ◌≤◌, ltb, Bool, false, not, ◌&&◌, arith}, lemmas.Bool.Decides.nat_tests}
use Rattle.qr_matrix.specs.{Steps.{set_count, NeedsWords}, Grid.is_same, Sums.count_below, Runs.joins, Runs.begins_five}
use Rattle.qr_matrix.proofs.lemmas.bit_row.{SumLemmas.count_below-cut, BoolLemmas.{and-false, false-and}}

-- ---- the number of set bits

-- a row of a side that takes so many words has at most 192 modules
pub side-most : (s w : ℕ) → NeedsWords s w → s ≤ 192
side-most s w h = omega (arith, h.most, h.three)

-- a bit row whose bits pass a test that nothing from s on passes has as many set bits as numbers below s pass it
pub size-is : (s : ℕ) (bit q : ℕ → Bool) → s ≤ 192 → ((c : ℕ) → c < 192 → bit c ≡ q c) → ((c : ℕ) → s ≤ c → q c ≡ false) → set_count bit ≡ count_below s q
unfolding set_count
size-is s bit q l e f = count_below-cut 192 s bit q l e f

-- ---- neighbours of one colour

-- a bit that is set just where module c is not the last and does not differ from the next is set just where c is joined
pub joins-bit : (s : ℕ) (line : ℕ → Bool) (c : ℕ) (r i d y : Bool) → 0 < s → r ≡ (i && not d) → i ≡ ltb c (s - 1) → d ≡ not (is_same (line c) y) → y ≡ line (c + 1) → r ≡ joins s line c
unfolding joins
joins-bit s line c r i d y h e f g k = search (arith, nat_tests)

-- neither the last module nor a module c past the side is joined
pub joins-past : (s : ℕ) (line : ℕ → Bool) (c : ℕ) → s ≤ c + 1 → joins s line c ≡ false
unfolding joins
joins-past s line c h = search (arith, false-and, nat_tests)

-- no five modules of one colour begin at one of the last four modules, or past the side
pub five-past : (s : ℕ) (line : ℕ → Bool) (c : ℕ) → s ≤ c + 4 → begins_five s line c ≡ false
unfolding begins_five
five-past s line c h = search (arith, and-false, joins-past)
