-- The words of the tables are the words of the definitions, and these are remainders.
use Rattle.std.proofs.Common.{◌≡◌, ℕ, zero, suc, ◌+◌, ◌-◌, ◌*◌, ◌^◌, ◌<◌, ◌≤◌, Bool, true, ◌&&◌, eqb, ltb, List, [], ◌∷◌, cond, get_or, refl, ap, ◌∙◌, arith}
use Rattle.std.{proofs.lemmas.Bool.{eqb-true}, specs.{Prelude.bit_xor, Int.bit_at}}
use Rattle.qr_layout.specs.declared.{level.Level.Level, format.TheConstants.{FORMAT_WORDS, VERSION_WORDS}}
use Rattle.qr_layout.specs.Format.{format_generator, version_generator, word_remainder, format_with, five_bits, format_word_of, version_word_of, level_bits, sum_of_shifts, IsWordRemainder, IsFormatWord, IsVersionWord}
use Rattle.qr_layout.proofs.lemmas.alignment.{below, below-at}

-- the two tables have the same format information at an index
formats : ℕ → Bool
formats i = eqb (get_or FORMAT_WORDS i 0) (format_with i)

-- in each of 32 cases, computed
all-formats : below 32 formats ≡ true
unfolding formats word_remainder
all-formats = refl

-- the two tables have the same version information at an index
versions : ℕ → Bool
versions i = eqb (get_or VERSION_WORDS i 0) (version_word_of (i + 7))

-- in each of 34 versions, computed
all-versions : below 34 versions ≡ true
unfolding versions version_word_of word_remainder
all-versions = refl

-- the version information that the code takes from its table
pub version-word-at : (v i : ℕ) → 7 ≤ v → v ≤ 40 → i ≡ v - 7 → get_or VERSION_WORDS i 0 ≡ version_word_of v
unfolding versions
version-word-at v i a b e =
    eqb-true (get_or VERSION_WORDS i 0) (version_word_of (i + 7)) (below-at 34 versions all-versions i (omega arith)) ∙ ap version_word_of (omega arith)

-- the format information that the code takes from its table
pub format-at : (l : Level) (first mask i : ℕ) → first ≡ 8 * level_bits l → level_bits l ≤ 3 → mask < 8 → i ≡ first + mask → get_or FORMAT_WORDS i 0 ≡ format_word_of l mask
unfolding formats format_word_of
format-at l first mask i e k h f =
    eqb-true (get_or FORMAT_WORDS i 0) (format_with i) (below-at 32 formats all-formats i (omega arith)) ∙ ap format_with (omega arith)

-- ---- the remainders

-- the shifts of the divisor that long division uses
shifts_of : ℕ → ℕ → ℕ → ℕ → List ℕ
shifts_of n divisor zero x = []
shifts_of n divisor (suc k) x = cond (eqb (bit_at x (n + k)) 1) (k ∷ shifts_of n divisor k (bit_xor x (divisor * 2 ^ k))) (shifts_of n divisor k x)

-- the test of a remainder and its shifts
is_remainder : ℕ → ℕ → ℕ → ℕ → Bool
is_remainder n divisor k x = ltb (word_remainder n divisor k x) (2 ^ n) && eqb (bit_xor x (word_remainder n divisor k x)) (sum_of_shifts divisor (shifts_of n divisor k x))

-- the remainders of the format information, computed
format-remainders : below 32 (λ i. is_remainder 10 format_generator 5 (i * 2 ^ 10)) ≡ true
unfolding is_remainder word_remainder shifts_of
format-remainders = refl

-- the remainders of the version information, computed
version-remainders : below 41 (λ i. is_remainder 12 version_generator 6 (i * 2 ^ 12)) ≡ true
unfolding is_remainder word_remainder shifts_of
version-remainders = refl

-- what the test of a remainder means
passed : (n divisor k x : ℕ) → (2 ^ n ≤ divisor) × (divisor < 2 ^ (n + 1)) → is_remainder n divisor k x ≡ true → IsWordRemainder n divisor x (word_remainder n divisor k x)
unfolding is_remainder
passed n divisor k x d h = search arith

-- the format information contains a remainder
pub format-word-remainder : (l : Level) (mask : ℕ) → mask < 8 → IsFormatWord (five_bits l mask) (format_word_of l mask)
unfolding format_word_of
format-word-remainder l mask h = record {
  rest = word_remainder 10 format_generator 5 (five_bits l mask * 2 ^ 10);
  remainder = passed 10 format_generator 5 (five_bits l mask * 2 ^ 10) (omega arith, omega arith) (below-at 32 (λ i. is_remainder 10 format_generator 5 (i * 2 ^ 10)) format-remainders (five_bits l mask) (search (arith)));
  word_is = refl;
}

-- the version information contains a remainder
pub version-word-remainder : (v : ℕ) → v ≤ 40 → IsVersionWord v (version_word_of v)
unfolding version_word_of
version-word-remainder v h = record {
  rest = word_remainder 12 version_generator 6 (v * 2 ^ 12);
  remainder = passed 12 version_generator 6 (v * 2 ^ 12) (omega arith, omega arith) (below-at 41 (λ i. is_remainder 12 version_generator 6 (i * 2 ^ 12)) version-remainders v (omega arith));
  word_is = refl;
}
