-- The 45 characters of alphanumeric mode: each has a value, which is its index.
use Rattle.qr_bits.proofs.lemmas.parsing.{ParsingLemmas.{bind-ok, same-ok}, PayloadLemmas.value-take-below}
use Rattle.qr_bits.{proofs.lemmas.stream.StreamLemmas.{IsWritten, more-written, drop-field, read-field, chosen-ok}, specs.Bits.value}
use Rattle.qr_bits.specs.Modes.{characters, is_alphanumeric, character_value, in_twos, is_kanji_pair, kanji_value, payload_bits}
use Rattle.qr_bits.specs.{Parsing.{character, ◌>>=◌, kanji_pair, pairs_of}, Steps.RunState.may_begin, Stream.{kanji_bits, payload}}
use Rattle.qr_bits.specs.declared.{fault.ParseFault.TheVariants.BadValue, modes.{Mode.TheVariants.{Numeric, Alphanumeric, Kanji}, Rule.Rule}}
use Rattle.qr_layout.proofs.Facts.{below, below-at}
use Rattle.std.proofs.Common.{◌≡◌, ℕ, ◌+◌, ◌<◌, ◌≤◌, ◌==◌, Bool, true, false, not, nat_le, List, length, get_or, Some, refl, sym, ◌∙◌, ⊎_elim, arith, zero, suc, ◌*◌, ◌/◌, ◌%◌, [], ◌∷◌, ◌++◌, take, drop, Ok, Err, append_assoc}
use Rattle.std.proofs.lemmas.Bool.{and_parts, and_from, cases_lt, false≢true, lt-ltb, eqb-true, eq-eqb, ne_eqb, le-leb, lt-leb, Decides.nat_tests}
use Rattle.std.proofs.lemmas.List.{length-drop, Elements.{All-from_get_or, All-nil}, Folds.{list_any_none, list_any_at}}
use Rattle.std.{proofs.lemmas.List.Sums.{fails_before_first, passes_at_first, position_or_len_is}, specs.List.{list_any, position, position_or_len}}
use borrow.Author.Tests.{leb-true}

found : (p : ℕ → Bool) (xs : List ℕ) → list_any p xs ≡ true → position_or_len p xs < length xs
found p xs h = ⊎_elim (λ (l : position_or_len p xs < length xs). l) (λ (l : length xs ≤ position_or_len p xs).
    absurd (false≢true (sym (list_any_none p xs (All-from_get_or (λ x. p x ≡ false) xs 0 (λ i k. fails_before_first p xs i 0 (omega arith)))) ∙ h)))
    (cases_lt (position_or_len p xs) (length xs))

-- a character has a value below 45
pub character-found : (b : ℕ) → is_alphanumeric b ≡ true → character_value b < 45
unfolding is_alphanumeric character_value characters
character-found b h = found (λ c. c == b) characters h

-- the index of one of the 45 characters is its value
pub index-is-value : (b : ℕ) → is_alphanumeric b ≡ true → position (λ c. c == b) characters ≡ Some (character_value b)
unfolding is_alphanumeric character_value
index-is-value b h = rw (lt-ltb _ _ (found (λ c. c == b) characters h)) refl

pub character-index : (b n : ℕ) → is_alphanumeric b ≡ true → position (λ c. c == b) characters ≡ Some n → (n ≡ character_value b) × (n ≤ 44)
character-index b n h e = search (arith, index-is-value, character-found)

-- a character is the character of its value
pub character-again : (b : ℕ) → is_alphanumeric b ≡ true → character (character_value b) ≡ b
unfolding is_alphanumeric character_value character
character-again b h = search (arith, eqb-true, passes_at_first, found)

many : length characters ≡ 45
unfolding characters
many = refl

low : ℕ → Bool
low i = nat_le (character i) 90

all-low : below 45 low ≡ true
unfolding low character characters
all-low = refl

-- a byte after Z is no character
pub past_z : (b : ℕ) → 90 < b → is_alphanumeric b ≡ false
unfolding is_alphanumeric low character
past_z b h =
    list_any_none (λ c. c == b) characters (All-from_get_or (λ x. (x == b) ≡ false) characters 0
    (λ i k. ne_eqb _ _ (λ e. let l = leb-true _ 90 (below-at 45 low all-low i (omega (arith, many))) in absurd (omega arith))))

differs : ℕ → ℕ → Bool
differs i k = not (character k == character i)

all-differ : below 45 (λ i. below i (differs i)) ≡ true
unfolding differs character characters
all-differ = refl

-- the value of the character n is n
pub character-taken : (n : ℕ) → n < 45 → (is_alphanumeric (character n) ≡ true) × (character_value (character n) ≡ n) × (character n < 256)
unfolding is_alphanumeric character_value differs low character
character-taken n h =
    let here : (get_or characters n 0 == character n) ≡ true = eq-eqb (character n) _ refl in
    let inside : n < length characters = omega (arith, many) in (
      list_any_at (λ c. c == character n) characters n 0 inside here,
      position_or_len_is (λ c. c == character n) characters n 0 (omega arith)
          (λ k l. let d = below-at n (differs n) (below-at 45 (λ i. below i (differs i)) all-differ n h) k l in grind arith)
          (λ _. here),
      omega (arith, leb-true _ 90 (below-at 45 low all-low n h)),
    )

all-digits : below 10 (λ i. is_alphanumeric (48 + i)) ≡ true
unfolding is_alphanumeric characters
all-digits = refl

-- a byte that may have numeric mode may have alphanumeric mode
pub digit-character : (r : Rule) (b : ℕ) (pair : Bool) → may_begin r b pair Numeric ≡ true → may_begin r b pair Alphanumeric ≡ true
unfolding may_begin
digit-character r b pair h = search (arith, leb-true, and_parts, below-at, all-digits, and_from)

-- Kanji pairs: a pair that is written as a value is read back, and the other way round.

-- a kanji pair is not below the first range, and above it is in the second
pub least_pair : (a b : ℕ) → is_kanji_pair a b ≡ true → (0x8140 ≤ 256 * a + b) × (0x9FFC < 256 * a + b → 0xE040 ≤ 256 * a + b)
unfolding is_kanji_pair
least_pair a b h = grind (arith, nat_tests)

value-again : (a b : ℕ) → is_kanji_pair a b ≡ true → let n = kanji_value a b in (n < 8192) × (n % 0xC0 ≤ 0xBC) × (kanji_pair n / 256 ≡ a) × (kanji_pair n % 256 ≡ b)
unfolding is_kanji_pair kanji_value kanji_pair
value-again a b h = grind (arith, nat_tests)

pair-again : (n : ℕ) → n < 8192 → n % 0xC0 ≤ 0xBC → let p = kanji_pair n in (p / 256 < 256) × (is_kanji_pair (p / 256) (p % 256) ≡ true) × (kanji_value (p / 256) (p % 256) ≡ n)
unfolding is_kanji_pair kanji_value kanji_pair
pair-again n s m = grind (arith, nat_tests)

-- kanji pairs that are written are read back
pub pairs-again : (xs : List ℕ) (rest : List Bool) → in_twos is_kanji_pair xs ≡ true → pairs_of (length xs / 2) (kanji_bits xs ++ rest) ≡ Ok xs
unfolding pairs_of kanji_bits
pairs-again [] rest h = refl
pairs-again (a ∷ []) rest h = absurd (false≢true h)
pairs-again (a ∷ b ∷ xs) rest h =
    let p = and_parts (is_kanji_pair a b) _ h in
    let v = value-again a b p.0 in
    let n = kanji_value a b in
    let more : suc (suc (length xs)) / 2 ≡ suc (length xs / 2) = omega arith in
    search (arith, append_assoc, le-leb, pairs-again xs rest p.1, read-field 13 n (kanji_bits xs ++ rest) v.0, drop-field 13 n (kanji_bits xs ++ rest))

-- Pairs that are read are written as the same bits.
pub pairs-takes : (n : ℕ) (xs : List ℕ) (bits : List Bool) → 13 * n ≤ length bits → pairs_of n bits ≡ Ok xs → IsWritten Kanji n bits xs
unfolding pairs_of kanji_bits payload
pairs-takes zero xs bits h e = search (arith, same-ok, All-nil)
pairs-takes (suc n) xs bits h e =
    let c = chosen-ok _ _ _ xs e in
    let b = bind-ok (pairs_of n (drop 13 bits)) _ xs c.1 in
    let is = pair-again (value (take 13 bits)) (value-take-below 13 bits) (leb-true _ 0xBC c.0) in
    let w = pairs-takes n b.0 (drop 13 bits) (omega (arith, length-drop 13 bits)) b.1 in
    let one : payload_bits Kanji (2 * n) ≡ 13 * n = omega arith in
    let whole = more-written 13 (13 * n) bits (kanji_bits b.0) (omega arith) (rw one at w.whole) in
    search arith

-- a kanji pair, and the pairs after it; or a value that no pair has
pub pairs-step : (n m : ℕ) (bits : List Bool) → n ≡ suc m → let g = value (take 13 bits) in (13 + 13 * m ≡ 13 * n)
    × (g % 0xC0 ≤ 0xBC → pairs_of n bits ≡ (pairs_of m (drop 13 bits) >>= λ xs. Ok (kanji_pair g / 256 ∷ kanji_pair g % 256 ∷ xs))) × (0xBC < g % 0xC0 → pairs_of n bits ≡ Err BadValue)
unfolding pairs_of
pairs-step n m bits h = search (arith, le-leb, lt-leb)
