-- Fields and digits: what is written is read back, and what is read is written as the same bits.
use Rattle.qr_bits.proofs.lemmas.{bits.BitLemmas.{length-field, value-below}, parsing.ParsingLemmas.{bind-ok, same-ok}, stream.WritingLemmas.three-more}
use Rattle.qr_bits.specs.{Bits.{field, value_from, value}, Modes.{byte_count, payload_bits, suits, is_digit}, Parsing.{digit, digits_of}}
use Rattle.qr_bits.specs.{Stream.{digit_bits, payload}, declared.{fault.ParseFault.ParseFault, modes.Mode.{Mode, TheVariants.Numeric}}}
use Rattle.std.proofs.Common.{◌≡◌, ℕ, zero, suc, ◌+◌, ◌-◌, ◌*◌, ◌/◌, ◌%◌, ◌^◌, ◌<◌, ◌≤◌, Bool, true, false, cond, ◌==◌, All, List, [], ◌∷◌, ◌++◌, length, take, drop, Result, Ok, Err, refl, sym, ◌∙◌, ap, arith, append_assoc}
use Rattle.std.proofs.{Math.{Nat.{pow-suc, mod-eq_of_lt}, Seq.{take-append_seam, drop-append_seam}}, lemmas.Bool.{lt-ltb, ltb-true, and_parts}}
use Rattle.std.proofs.lemmas.{Bool.Decides.nat_tests, List.{length-take-le, length-drop, drop-drop, take-append-drop, Elements.{All-nil, All-cons}}}
use Rattle.std.{proofs.lemmas.Nat.mod-pow-add, specs.List.list_all}
use borrow.Author.Tests.{leb-true}

bit-step : (a d : ℕ) (bs : List Bool) → d < 2 → value_from a ((d == 1) ∷ bs) ≡ value_from (2 * a + d) bs
bit-step a d bs h = grind arith

-- the digits of `a` and then a field of `w` bits are a number, of which the field is the last `w` digits
value_from-field : (a w n : ℕ) → value_from a (field w n) ≡ a * 2 ^ w + n % 2 ^ w
unfolding field
value_from-field a zero n = omega arith
value_from-field a (suc w) n =
    let one : 1 + w ≡ suc w = omega arith in
    bit-step a (n / 2 ^ w % 2) (field w n) (omega arith) ∙ rw (pow-suc 2 w) (omega (arith, value_from-field (2 * a + n / 2 ^ w % 2) w n, rw (pow-suc 2 w) at (rw one at (mod-pow-add n 1 w))))

value-field : (w n : ℕ) → n < 2 ^ w → value (field w n) ≡ n
value-field w n h = value_from-field 0 w n ∙ omega (arith, mod-eq_of_lt h)

-- if equally many bits make equal numbers of `a` and `b`, then `a` and `b` are equal, and so are the bits
value_from-inj : (a b : ℕ) (xs ys : List Bool) → length xs ≡ length ys → value_from a xs ≡ value_from b ys → (a ≡ b) × (xs ≡ ys)
value_from-inj a b [] [] l e = (e, refl)
value_from-inj a b [] (y ∷ ys) l e = absurd (omega arith)
value_from-inj a b (x ∷ xs) [] l e = absurd (omega arith)
value_from-inj a b (true ∷ xs) (true ∷ ys) l e = search (arith, value_from-inj (2 * a + 1) (2 * b + 1) xs ys (omega arith) e)
value_from-inj a b (true ∷ xs) (false ∷ ys) l e = search (arith, value_from-inj (2 * a + 1) (2 * b) xs ys (omega arith) e)
value_from-inj a b (false ∷ xs) (true ∷ ys) l e = search (arith, value_from-inj (2 * a) (2 * b + 1) xs ys (omega arith) e)
value_from-inj a b (false ∷ xs) (false ∷ ys) l e = search (arith, value_from-inj (2 * a) (2 * b) xs ys (omega arith) e)

field-value : (w : ℕ) (bs : List Bool) → length bs ≡ w → field w (value bs) ≡ bs
field-value w bs h =
    (value_from-inj 0 0 (field w (value bs)) bs (length-field w (value bs) ∙ sym h) (value-field w (value bs) (rw (← h) (value-below bs)))).1

-- these bytes are digits
abbrev pub AreDigits : List ℕ → Type 0
AreDigits [] = Unit {0}
AreDigits (x ∷ xs) = (48 ≤ x) × (x ≤ 57) × AreDigits xs

take-field : (w n : ℕ) (rest : List Bool) → take w (field w n ++ rest) ≡ field w n
take-field w n rest = cc (take-append_seam (field w n) rest, length-field w n)

-- the bits after a field
pub drop-field : (w n : ℕ) (rest : List Bool) → drop w (field w n ++ rest) ≡ rest
drop-field w n rest = cc (drop-append_seam (field w n) rest, length-field w n)

-- the number of the first bits, if they are a field
pub read-field : (w n : ℕ) (rest : List Bool) → n < 2 ^ w → value (take w (field w n ++ rest)) ≡ n
read-field w n rest h = ap value (take-field w n rest) ∙ value-field w n h

-- the first bits are the field of their number
pub field-read : (w : ℕ) (bits : List Bool) → w ≤ length bits → field w (value (take w bits)) ≡ take w bits
field-read w bits h = field-value w (take w bits) (length-take-le w bits h)

-- a number that was read before other data, written again, is the bits that were read
pub more-written : (w k : ℕ) (bs body : List Bool) → w ≤ length bs → drop w bs ≡ body ++ drop k (drop w bs)
    → bs ≡ (field w (value (take w bs)) ++ body) ++ drop (w + k) bs
more-written w k bs body h e = search (arith, field-read, append_assoc, drop-drop, take-append-drop)

-- Digits that are written are read back.
pub digits-again : (xs : List ℕ) (rest : List Bool) → AreDigits xs → digits_of (length xs) (digit_bits xs ++ rest) ≡ Ok xs
unfolding digits_of digit_bits
digits-again [] rest h = refl
digits-again (a ∷ []) rest h =
    grind (arith, lt-ltb, read-field 4 (a - 48) rest (omega arith))
digits-again (a ∷ b ∷ []) rest h =
    grind (arith, lt-ltb, read-field 7 (10 * (a - 48) + (b - 48)) rest (omega arith))
digits-again (a ∷ b ∷ c ∷ xs) rest h =
    let g = 100 * (a - 48) + 10 * (b - 48) + (c - 48) in
    search (arith, append_assoc, lt-ltb, digits-again xs rest h.2.2.2, drop-field 10 g (digit_bits xs ++ rest), read-field 10 g (digit_bits xs ++ rest) (omega arith))

-- a conditional between a result and a fault that succeeds is the result
pub chosen-ok : {A : Type 0} (b : Bool) (r : Result A ParseFault) (f : ParseFault) (y : A) → cond b r (Err f) ≡ Ok y → (b ≡ true) × (r ≡ Ok y)
chosen-ok b r f y h = grind arith

-- the digits, characters, bytes or kanji pairs that were read, written again, are the bits that were read
pub record IsWritten (m : Mode) (n : ℕ) (bits : List Bool) (xs : List ℕ) : Type 0 where
  pub long : length xs ≡ byte_count m n
  pub bytes : All (λ b. b < 256) xs
  pub suited : suits m xs ≡ true
  pub whole : bits ≡ payload m xs ++ drop (payload_bits m (byte_count m n)) bits

is_digit-digit : (n : ℕ) → is_digit (digit n) ≡ true
is_digit-digit n = search (arith, nat_tests)

-- Digits that are read are written as the same bits.
pub digits-takes : (n : ℕ) (xs : List ℕ) (bs : List Bool) → payload_bits Numeric n ≤ length bs → digits_of n bs ≡ Ok xs → IsWritten Numeric n bs xs
unfolding digits_of digit_bits payload
digits-takes zero xs bs h e = search (arith, same-ok, All-nil)
digits-takes (suc zero) xs bs h e =
    let g = value (take 4 bs) in
    let low : g < 10 = ltb-true _ _ (chosen-ok _ _ _ xs e).0 in
    let back : digit g - 48 ≡ g = omega arith in
    let whole : bs ≡ field 4 (value (take 4 bs)) ++ drop 4 bs = cc (field-read 4 bs h, take-append-drop 4 bs) in
    search (arith, same-ok, All-cons, All-nil, is_digit-digit)
digits-takes (suc (suc zero)) xs bs h e =
    let c = chosen-ok _ _ _ xs e in
    let low : (value (take 7 bs)) < 100 = ltb-true _ _ c.0 in
    let whole : bs ≡ field 7 (value (take 7 bs)) ++ drop 7 bs = cc (field-read 7 bs h, take-append-drop 7 bs) in
    search (arith, same-ok, All-cons, All-nil, is_digit-digit)
digits-takes (suc (suc (suc n))) xs bs h e =
    let c = chosen-ok _ _ _ xs e in
    let b = bind-ok (digits_of n (drop 10 bs)) _ xs c.1 in
    let low : (value (take 10 bs)) < 1000 = ltb-true _ _ c.0 in
    let three : suc (suc (suc n)) ≡ 3 + n = omega arith in
    let room : 10 + payload_bits Numeric n ≤ length bs = rw (← three-more n, ← three) h in
    let w = digits-takes n b.0 (drop 10 bs) (omega (arith, length-drop 10 bs)) b.1 in
    let whole = more-written 10 (payload_bits Numeric n) bs (digit_bits b.0) (omega arith) w.whole in
    search (arith, same-ok, All-cons, is_digit-digit, three-more)

-- bytes that suit numeric mode are digits
pub are-digits : (xs : List ℕ) → list_all is_digit xs ≡ true → AreDigits xs
are-digits [] h = tt
are-digits (x ∷ xs) h = search (arith, and_parts, leb-true, are-digits xs)
