-- What the next byte adds to the bits of an input, in each mode and after each state. A state says which mode the last
-- byte has, and how many bytes of its group there are so far. A group is three digits, two characters of alphanumeric
-- mode, one byte of byte mode, or a kanji pair. `p` is a state, `v` the version, and `r` the rule. `test` says which
-- two bytes count as a kanji pair, and `pair` says whether a byte `x` may begin a pair.
use Rattle.std.specs.Prelude.{◌≡◌, ℕ, ◌+◌, ◌*◌, ◌≤◌, Bool, true, false, ◌&&◌, ◌==◌, if◌then◌else◌, List, [], ◌∷◌, IsTrue}
use Rattle.qr_bits.specs.declared.modes.Mode.{Mode}
use Rattle.qr_bits.specs.declared.modes.Mode.TheVariants.{Numeric, Alphanumeric, Byte, Kanji}
use Rattle.qr_bits.specs.declared.modes.Rule.{Rule}
use Rattle.qr_bits.specs.declared.run_state.RunState.{RunState}
use Rattle.qr_bits.specs.declared.run_state.RunState.TheVariants.{Start, Digit1, Digit2, Digit3, Character1, Character2, InBytes, HalfPair, WholePair}
use Rattle.qr_bits.specs.declared.interpretation.Interpretation.{Interpretation}
use Rattle.qr_bits.specs.declared.interpretation.Interpretation.TheVariants as written
use Rattle.qr_bits.specs.Interpretation.{character_for, is_doubled}
use Rattle.qr_bits.specs.Modes.{count_width, is_digit, is_alphanumeric, may_use}
use Rattle.qr_bits.specs.Segmentation.{rank, IsNotAfter}

-- The state after the state `p` and one more byte, which has the mode `m`
unfoldable pub state_after : RunState → Mode → RunState
state_after Digit1 Numeric = Digit2
state_after Digit2 Numeric = Digit3
state_after _ Numeric = Digit1
state_after Character1 Alphanumeric = Character2
state_after _ Alphanumeric = Character1
state_after _ Byte = InBytes
state_after HalfPair Kanji = WholePair
state_after _ Kanji = HalfPair

-- The state after one more byte. This byte has the mode of the byte before it, or byte mode after `Start`, where no
-- byte comes before it
unfoldable pub state_on : RunState → RunState
state_on Start = InBytes
state_on Digit1 = Digit2
state_on Digit2 = Digit3
state_on Digit3 = Digit1
state_on Character1 = Character2
state_on Character2 = Character1
state_on InBytes = InBytes
state_on HalfPair = WholePair
state_on WholePair = HalfPair

-- The bits that a byte of the mode `m` adds after the state `p`. The first byte of a segment also adds the bits of the
-- mode indicator and the character count indicator, and the first byte of a kanji pair adds all bits of the pair
unfoldable pub byte_cost : ℕ → RunState → Mode → ℕ
byte_cost v Digit1 Numeric = 3
byte_cost v Digit2 Numeric = 3
byte_cost v Digit3 Numeric = 4
byte_cost v _ Numeric = 4 + count_width v Numeric + 4
byte_cost v Character1 Alphanumeric = 5
byte_cost v Character2 Alphanumeric = 6
byte_cost v _ Alphanumeric = 4 + count_width v Alphanumeric + 6
byte_cost v InBytes Byte = 8
byte_cost v _ Byte = 4 + count_width v Byte + 8
byte_cost v HalfPair Kanji = 0
byte_cost v WholePair Kanji = 13
byte_cost v _ Kanji = 4 + count_width v Kanji + 13

-- The given test for a kanji pair, with its two arguments exchanged. It is used where bytes are taken from the last to
-- the first, so that the second byte of a pair comes before its first
abbrev pub swapped : (ℕ → ℕ → Bool) → ℕ → ℕ → Bool
swapped test x y = test y x

-- The rule allows kanji mode, and the first two of the bytes are a kanji pair
unfoldable pub begins_with_pair : Rule → (ℕ → ℕ → Bool) → List ℕ → Bool
begins_with_pair r test [] = false
begins_with_pair r test (x ∷ []) = false
begins_with_pair r test (x ∷ y ∷ xs) = may_use r Kanji && test x y

-- The byte `x`, which is not the second byte of a kanji pair, may have the given mode. In kanji mode it has to be the
-- first of a pair, as `pair` says
unfoldable pub may_begin : Rule → ℕ → Bool → Mode → Bool
may_begin r x pair Numeric = may_use r Numeric && is_digit x
may_begin r x pair Alphanumeric = may_use r Alphanumeric && is_alphanumeric x
may_begin r x pair Byte = may_use r Byte
may_begin r x pair Kanji = pair

-- The byte `x` may have the mode `m` after the state `p`. If it is the second byte of a kanji pair, only kanji mode is
-- possible
unfoldable pub may_take : Rule → RunState → ℕ → Bool → Mode → Bool
may_take r HalfPair x pair m = rank m == rank Kanji
may_take r _ x pair m = may_begin r x pair m

-- Whether an assignment may end in the given state. It may end in each but the one after the first byte of a kanji pair
unfoldable pub may_end : RunState → Bool
may_end HalfPair = false
may_end _ = true

-- If the state before the bytes is `p`, the bytes may have the given modes, one mode for each byte
unfoldable pub allowed : Rule → (ℕ → ℕ → Bool) → RunState → List ℕ → List Mode → Bool
allowed r test p [] [] = may_end p
allowed r test p [] (m ∷ ms) = false
allowed r test p (x ∷ xs) [] = false
allowed r test p (x ∷ xs) (m ∷ ms) = may_take r p x (begins_with_pair r test (x ∷ xs)) m && allowed r test (state_after p m) xs ms

-- How many bits are added by bytes of the given modes, if the state before the first of these bytes is `p`
unfoldable pub cost_of : ℕ → RunState → List Mode → ℕ
cost_of v p [] = 0
cost_of v p (m ∷ ms) = byte_cost v p m + cost_of v (state_after p m) ms

-- The interpretation says that the bytes are GS1 data
abbrev pub is_gs1 : Interpretation → Bool
is_gs1 written.Gs1 = true
is_gs1 _ = false

-- The state after the state `p` and the one or two characters that are written for the byte `x` in the mode `m`
abbrev pub state_in : Interpretation → RunState → ℕ → Mode → RunState
state_in i p x m = if is_doubled i x m then state_after (state_after p m) m else state_after p m

-- How many bits are added after the state `p` by the one or two characters that are written for the byte `x` in the
-- mode `m`
abbrev pub cost_in : Interpretation → ℕ → RunState → ℕ → Mode → ℕ
cost_in i v p x m = if is_doubled i x m then byte_cost v p m + byte_cost v (state_after p m) m else byte_cost v p m

-- The byte `x` may have the mode `m` after the state `p`. The mode has to suit the character that is written for the
-- byte, which in GS1 data may differ from the byte
abbrev pub may_take_in : Interpretation → Rule → RunState → ℕ → Bool → Mode → Bool
may_take_in i r p x pair m = may_take r p (character_for i x m) pair m

-- If the state before the bytes is `p`, the bytes may have the given modes, one mode for each byte. A mode has to suit
-- the character that is written for its byte, which in GS1 data may differ from the byte
unfoldable pub allowed_in : Interpretation → Rule → (ℕ → ℕ → Bool) → RunState → List ℕ → List Mode → Bool
allowed_in i r test p [] [] = may_end p
allowed_in i r test p [] (m ∷ ms) = false
allowed_in i r test p (x ∷ xs) [] = false
allowed_in i r test p (x ∷ xs) (m ∷ ms) = may_take_in i r p x (begins_with_pair r test (x ∷ xs)) m && allowed_in i r test (state_in i p x m) xs ms

-- How many bits are added by the characters that are written for the bytes, if the bytes have the given modes and the
-- state before the first byte is `p`
unfoldable pub cost_of_all : Interpretation → ℕ → RunState → List ℕ → List Mode → ℕ
cost_of_all i v p [] ms = cost_of v p ms
cost_of_all i v p (x ∷ xs) [] = 0
cost_of_all i v p (x ∷ xs) (m ∷ ms) = cost_in i v p x m + cost_of_all i v (state_in i p x m) xs ms

-- Of the assignments to the bytes `xs` that are allowed after the state `p`, none adds fewer bits than `ms`, which adds
-- `n`. Of all that add `n` bits, `ms` is the first in lexicographic order by the ranks of the modes
pub record IsBestRest (i : Interpretation) (v : ℕ) (r : Rule) (test : ℕ → ℕ → Bool) (p : RunState) (xs : List ℕ) (ms : List Mode) (n : ℕ) : Type 0 where
  pub is_allowed : IsTrue (allowed_in i r test p xs ms)
  pub has_bits : cost_of_all i v p xs ms ≡ n
  pub least : (ks : List Mode) → IsTrue (allowed_in i r test p xs ks) → n ≤ cost_of_all i v p xs ks
  pub first : (ks : List Mode) → IsTrue (allowed_in i r test p xs ks) → cost_of_all i v p xs ks ≡ n → IsNotAfter ms ks

-- `m` is the best mode that the byte `x` may have after the state `p`. With `m`, this byte and all later bytes add `n`
-- bits together, and with no other mode of this byte can they add fewer. Of all modes of this byte with which they add
-- `n` bits, `m` has the lowest rank. The later bytes add `cost q` bits if the state after `x` is `q`
pub record IsChoice (i : Interpretation) (v : ℕ) (r : Rule) (p : RunState) (x : ℕ) (pair : Bool) (cost : RunState → ℕ) (m : Mode) (n : ℕ) : Type 0 where
  pub is_allowed : IsTrue (may_take_in i r p x pair m)
  pub has_bits : n ≡ cost_in i v p x m + cost (state_in i p x m)
  pub least : (k : Mode) → IsTrue (may_take_in i r p x pair k) → n ≤ cost_in i v p x k + cost (state_in i p x k)
  pub first : (k : Mode) → IsTrue (may_take_in i r p x pair k) → cost_in i v p x k + cost (state_in i p x k) ≡ n → rank m ≤ rank k

-- A choice, which is a mode and a number of bits, as one number. Of two choices, the one with fewer bits has the
-- smaller number, and of two with equally many bits, the one whose mode has the lower rank. If the mode is not allowed,
-- the result is the greatest number of 32 bits, which no allowed choice reaches for inputs of at most `INPUT_MAX` bytes
abbrev pub choice_number : Bool → ℕ → Mode → ℕ
choice_number may bits m = if may then 4 * bits + rank m else 4294967295

-- The mode that has the rank `n`, from 0 for numeric mode to 3 for kanji mode
abbrev pub ranked : ℕ → Mode
ranked n = if n == 0 then Numeric else (if n == 1 then Alphanumeric else (if n == 2 then Byte else Kanji))
