-- The format information of a square is that of at most one level and mask.
use Rattle.qr_layout.{proofs.Facts.{below, below-at, format-first}, specs.Format.{word_remainder, format_with, five_bits, level_bits, format_word_of}}
use Rattle.{qr_layout.specs.declared.level.Level.Level, qr_matrix.{proofs.Facts.colour-square, specs.{BitRow.has_bit, Grid.Grid}}}
use Rattle.qr_symbol.specs.{Reading.IsFormat, Symbol.{colour_of, grid_of}}
use Rattle.std.proofs.{Common.{◌≡◌, ℕ, ◌/◌, ◌^◌, ◌<◌, ◌≤◌, Bool, true, eqb, ltb, List, refl, sym, ◌∙◌, ap, arith}, lemmas.Bool.{eqb-true, Decides.nat_tests}}
use Rattle.std.{proofs.lemmas.Nat.Bits.{same_from_bits_below, bit_at-lt}, specs.Prelude.bit_xor}
use borrow.Author.Tests.{ltb-true}

-- the test that the word of format information contains its five data bits
gives-back : ℕ → Bool
gives-back i = eqb (bit_xor (format_with i) 0x5412 / 1024) i

-- the test that the word of format information has at most 15 bits
is-short : ℕ → Bool
is-short i = ltb (format_with i) (2 ^ 15)

-- each of the 32 words contains its five data bits, computed
all-give-back : below 32 gives-back ≡ true
unfolding gives-back word_remainder
all-give-back = refl

-- each of the 32 words has at most 15 bits, computed
all-short : below 32 is-short ≡ true
unfolding is-short word_remainder
all-short = refl

-- the bits of a level are a number of at most 3
pub level-small : (l : Level) → level_bits l ≤ 3
level-small l = grind arith

-- different levels have different bits
pub level-one : (l k : Level) → level_bits l ≡ level_bits k → l ≡ k
level-one l k e = grind arith

-- the word of a level and a mask has at most 15 bits
short : (l : Level) (mask : ℕ) → mask < 8 → format_word_of l mask < 2 ^ 15
unfolding format_word_of is-short
short l mask h = let s = level-small l in ltb-true _ _ (below-at 32 is-short all-short (five_bits l mask) (omega arith))

-- the highest five bits of the word are those of the level and the mask, once it is unmasked
back : (l : Level) (mask : ℕ) → mask < 8 → bit_xor (format_word_of l mask) 0x5412 / 1024 ≡ five_bits l mask
unfolding format_word_of gives-back
back l mask h = let s = level-small l in eqb-true _ _ (below-at 32 gives-back all-give-back _ (omega arith))

-- a square has the format information of at most one level and mask
pub format-one : (g : Grid) (l k : Level) (m n : ℕ) → IsFormat g l m → IsFormat g k n → (l ≡ k) × (m ≡ n)
unfolding has_bit
format-one g l k m n h j =
    let a = format_word_of l m in let b = format_word_of k n in
    let p = h.in_range in let q = j.in_range in
    let five : five_bits l m ≡ five_bits k n = sym (back l m p) ∙ (ap (λ (z : ℕ). bit_xor z 0x5412 / 1024) (same_from_bits_below 15 a b (short l m p) (short k n q) (search (arith, nat_tests, bit_at-lt))) ∙ back k n q) in
    (level-one l k (omega arith), omega arith)

-- a drawn symbol has the format information of its level and mask
pub format-read : (v : ℕ) (l : Level) (mask : ℕ) (cw : List ℕ) → 1 ≤ v → v ≤ 40 → mask < 8 → IsFormat (grid_of v l mask cw) l mask
unfolding colour_of
format-read v l mask cw p q h = search (arith, colour-square, format-first)
