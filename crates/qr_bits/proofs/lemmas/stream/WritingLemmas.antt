-- Writing the data of a segment, group by group, and the length of what is written.
use Rattle.std.proofs.Common.{◌≡◌, ℕ, ◌+◌, ◌-◌, ◌*◌, ◌/◌, ◌<◌, ◌≤◌, Bool, true, ◌&&◌, List, [], ◌∷◌, ◌++◌, length, get_or, take, drop, refl, sym, ◌∙◌, arith, length-append}
use Rattle.std.proofs.lemmas.{Bool.and_parts, Bool.false≢true, List.length-take-le, List.drop_all, List.take-append-drop, List.Folds.list_all-append}
use Rattle.{std.{proofs.Math.Seq.drop-cons, specs.List.list_all}, qr_bits.specs.Segmentation.bits}
use Rattle.qr_bits.specs.{declared.{modes.Mode.{Mode, TheVariants.{Numeric, Alphanumeric, Kanji}}, segmentation.Segment.Segment}, Bits.field}
use Rattle.qr_bits.{specs.Modes.{payload_bits, in_twos, is_kanji_pair, suits, character_value}, proofs.lemmas.bits.BitLemmas.{length-field, length-bits_of}}
use Rattle.qr_bits.specs.Stream.{kanji_bits, digit_bits, character_bits, payload, segment_stream, segments_stream, Suits}

-- if all bytes pass a test, the bytes after the first n pass it
pub all-rest : (p : ℕ → Bool) (xs : List ℕ) (n : ℕ) → list_all p xs ≡ true → list_all p (drop n xs) ≡ true
all-rest p xs n h = (and_parts _ _ (sym (list_all-append p (take n xs) (drop n xs)) ∙ rw (take-append-drop n xs) h)).1

-- three digits, and the digits after them
pub digits-three : (xs : List ℕ) → 3 ≤ length xs
    → digit_bits xs ≡ field 10 (100 * (get_or xs 0 0 - 48) + 10 * (get_or xs 1 0 - 48) + (get_or xs 2 0 - 48)) ++ digit_bits (drop 3 xs)
unfolding digit_bits
digits-three xs h = grind arith

-- bytes pass a test two by two if the first two pass it, and the rest two by two
pub in_twos-step : (test : ℕ → ℕ → Bool) (xs : List ℕ) → 2 ≤ length xs → in_twos test xs ≡ test (get_or xs 0 0) (get_or xs 1 0) && in_twos test (drop 2 xs)
in_twos-step test xs n = grind arith

-- three digits more have ten bits more
pub three-more : (n : ℕ) → payload_bits Numeric (3 + n) ≡ 10 + payload_bits Numeric n
three-more n = search arith

-- digits take as many bits as `payload_bits` says
length-digit_bits : (xs : List ℕ) → length (digit_bits xs) ≡ payload_bits Numeric (length xs)
unfolding digit_bits
length-digit_bits [] = refl
length-digit_bits (a ∷ []) = length-field 4 (a - 48)
length-digit_bits (a ∷ b ∷ []) = length-field 7 (10 * (a - 48) + (b - 48))
length-digit_bits (a ∷ b ∷ c ∷ xs) = search (arith, length-append, length-field, three-more, length-digit_bits xs)

length-character_bits : (xs : List ℕ) → length (character_bits xs) ≡ payload_bits Alphanumeric (length xs)
unfolding character_bits
length-character_bits [] = refl
length-character_bits (a ∷ []) = length-field 6 (character_value a)
length-character_bits (a ∷ b ∷ xs) = search (arith, length-append, length-field, length-character_bits xs)

-- bytes that pass a test two by two are even in number
pub in_twos-even : (test : ℕ → ℕ → Bool) (xs : List ℕ) → in_twos test xs ≡ true → 2 * (length xs / 2) ≡ length xs
in_twos-even test [] h = refl
in_twos-even test (x ∷ []) h = absurd (false≢true h)
in_twos-even test (x ∷ y ∷ xs) h = omega (arith, and_parts, in_twos-even test xs (and_parts (test x y) _ h).1)

-- kanji pairs take as many bits as `payload_bits` says
length-kanji_bits : (xs : List ℕ) → in_twos is_kanji_pair xs ≡ true → length (kanji_bits xs) ≡ payload_bits Kanji (length xs)
unfolding kanji_bits
length-kanji_bits [] h = refl
length-kanji_bits (a ∷ []) h = absurd (false≢true h)
length-kanji_bits (a ∷ b ∷ xs) h =
    search (arith, and_parts, length-append, length-field, length-kanji_bits xs (and_parts (is_kanji_pair a b) _ h).1)

-- the length of data
pub length-payload : (m : Mode) (xs : List ℕ) → suits m xs ≡ true → length (payload m xs) ≡ payload_bits m (length xs)
unfolding payload
length-payload m xs h = grind (arith, length-digit_bits, length-character_bits, length-bits_of, length-kanji_bits)

-- the length of the stream of segments
pub length-segments_stream : (v : ℕ) (xs : List ℕ) (segs : List Segment) → Suits xs segs → length (segments_stream v xs segs) ≡ bits v segs
unfolding segments_stream Suits segment_stream
length-segments_stream v xs [] h = refl
length-segments_stream v xs (s ∷ ss) h =
    search (arith, length-take-le, length-append, length-field, length-payload, length-segments_stream v (drop s.len xs) ss h.2)

-- the stream of the segments from index i on
pub stream-next : (v : ℕ) (xs : List ℕ) (segs : List Segment) (i : ℕ) (d : Segment) → i < length segs
    → segments_stream v xs (drop i segs) ≡ segment_stream v (get_or segs i d).mode (take (get_or segs i d).len xs) ++ segments_stream v (drop (get_or segs i d).len xs) (drop (i + 1) segs)
unfolding segments_stream
stream-next v xs segs i d h = search (arith, drop-cons)

-- the stream of no segment is empty
pub stream-end : (v : ℕ) (xs : List ℕ) (segs : List Segment) (i : ℕ) → length segs ≤ i → segments_stream v xs (drop i segs) ≡ []
unfolding segments_stream
stream-end v xs segs i h = rw (drop_all i segs h) refl
