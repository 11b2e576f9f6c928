-- What the characters of items stand for, item by item.
use Rattle.qr_bits.specs.Interpretation.{plain, meant, meant_bytes, eci_changes, fnc1_of, is_doubled, character_for, doubled_gs1, characters_gs1, doubled, characters_in, are_fields, MayWrite, segments_among}
use Rattle.qr_bits.specs.{Parsing.{content_of, plain_content}, Segmentation.{rank, least_sixths, IsLeastSegmentation}, Stream.Suits}
use Rattle.qr_bits.specs.declared.{interpretation.{Interpretation.{Interpretation, TheVariants.{Default, Gs1, Eci}}, Item.Item}, modes.Mode.Mode}
use Rattle.qr_bits.specs.declared.{modes.{Mode.TheVariants.{Numeric, Byte, Kanji}, Rule.Rule}, segmentation.Segment.Segment, stream.Header.Header}
use Rattle.std.proofs.Common.{◌≡◌, ℕ, ◌+◌, ◌<◌, ◌≤◌, false, List, [], ◌∷◌, length, take, drop, get_or, Option, None, refl, sym, arith, zero, suc, ◌*◌, replicate, sum_by, true, cond, reverse, ◌++◌}
use Rattle.std.proofs.{Math.Seq.drop-cons, lemmas.{Bool.{cond_both, and_parts, and_from}, List.{take-append-drop, drop_all, length-reverse, reverse-append}}}
use Rattle.std.proofs.lemmas.List.Sums.{sum_by-cons}

-- Segments alone stand for their characters.
pub meant-plain : (segs : List Segment) (xs : List ℕ) → Suits xs segs → meant_bytes false (plain segs) xs ≡ xs
unfolding meant_bytes Suits
meant-plain [] xs h = sym h
meant-plain (s ∷ ss) xs h = search (arith, take-append-drop, meant-plain ss (drop s.len xs) h.2)

pub ecis-plain : (segs : List Segment) (n : ℕ) (xs : List ℕ) → eci_changes false n (plain segs) xs ≡ []
unfolding eci_changes
ecis-plain [] n xs = refl
ecis-plain (s ∷ ss) n xs = ecis-plain ss (n + length (meant false s.mode (take s.len xs))) (drop s.len xs)

pub plain-meant : (h : Option Header) (segs : List Segment) (xs : List ℕ) → Suits xs segs → content_of h (plain segs) xs ≡ plain_content h segs xs
plain-meant h segs xs s = rw (meant-plain segs xs s, ecis-plain segs 0 xs) refl

-- the items from index `i` on, of which the first is `x`
pub item-next : (items : List Item) (i : ℕ) (d x : Item) → i < length items → get_or items i d ≡ x → drop i items ≡ x ∷ drop (i + 1) items
item-next items i d x h e = rw (← e) (search (arith, drop-cons))

-- the segments among an item and more items
among-more : (x : Item) (items : List Item) → segments_among (x ∷ items) ≡ segments_among (x ∷ []) ++ segments_among items
unfolding segments_among
among-more x items = grind arith

-- the segments among the items from index `i` on are that item, if it is a segment, and those among the items after it
pub among-next : (items : List Item) (i : ℕ) (d : Item) → i < length items
    → segments_among (drop i items) ≡ segments_among (get_or items i d ∷ []) ++ segments_among (drop (i + 1) items)
among-next items i d h = rw (item-next items i d _ h refl) (among-more _ _)

-- The FNC1 among the items from index `i` on, if that item is `x`.
pub fnc1_next : (items : List Item) (i : ℕ) (d x : Item) → i < length items → get_or items i d ≡ x → fnc1_of (drop i items) ≡ fnc1_of (x ∷ drop (i + 1) items)
fnc1_next items i d x h e = rw (item-next items i d x h e) refl

pub fnc1_end : (items : List Item) (i : ℕ) → length items ≤ i → fnc1_of (drop i items) ≡ None
unfolding fnc1_of
fnc1_end items i h = rw (drop_all i items h) refl

-- The characters that are written for bytes, and their modes.

-- the modes of the characters of one byte more
pub doubled-step : (i : Interpretation) (x : ℕ) (xs : List ℕ) (m : Mode) (ms : List Mode)
    → doubled i (x ∷ xs) (m ∷ ms) ≡ cond (is_doubled i x m) (m ∷ m ∷ doubled i xs ms) (m ∷ doubled i xs ms)
unfolding doubled_gs1
doubled-step i x xs m ms = grind arith

-- one more byte adds its character once, or twice if it is doubled
pub characters_in-step : (i : Interpretation) (x : ℕ) (xs : List ℕ) (m : Mode) (ms : List Mode)
    → characters_in i (x ∷ xs) (m ∷ ms) ≡ cond (is_doubled i x m) (character_for i x m ∷ character_for i x m ∷ characters_in i xs ms) (character_for i x m ∷ characters_in i xs ms)
unfolding characters_gs1
characters_in-step i x xs m ms = grind arith

-- without a byte there is no character, and without a mode each byte is itself
pub written-none : (i : Interpretation) (ms : List Mode) → (doubled i [] ms ≡ ms) × (characters_in i [] ms ≡ [])
unfolding characters_gs1 doubled_gs1
written-none i ms = grind arith

pub unwritten : (i : Interpretation) (x : ℕ) (xs : List ℕ) → (doubled i (x ∷ xs) [] ≡ []) × (characters_in i (x ∷ xs) [] ≡ x ∷ xs)
unfolding characters_gs1 doubled_gs1
unwritten i x xs = grind arith

-- in byte mode and kanji mode no byte is doubled, or another character
pub single-byte : (i : Interpretation) (x : ℕ) → (is_doubled i x Byte ≡ false) × (is_doubled i x Kanji ≡ false)
single-byte i x = grind arith

-- only alphanumeric mode doubles
pub doubled-rank : (i : Interpretation) (x : ℕ) (m : Mode) → is_doubled i x m ≡ true → rank m ≡ 1
doubled-rank i x m h = grind arith

-- the characters of two lists of bytes are written one after the other, and so are the modes
pub written-append : (i : Interpretation) (xs ys : List ℕ) (ms ks : List Mode) → length xs ≡ length ms
    → (doubled i (xs ++ ys) (ms ++ ks) ≡ doubled i xs ms ++ doubled i ys ks) × (characters_in i (xs ++ ys) (ms ++ ks) ≡ characters_in i xs ms ++ characters_in i ys ks)
written-append i [] ys [] ks h = search (arith, written-none i [])
written-append i [] ys (m ∷ ms) ks h = absurd (omega arith)
written-append i (x ∷ xs) ys [] ks h = absurd (omega arith)
written-append i (x ∷ xs) ys (m ∷ ms) ks h =
    search (arith, doubled-step, characters_in-step, cond_both, written-append i xs ys ms ks (omega arith))

-- one character, or two
pub written-one : (i : Interpretation) (x : ℕ) (m : Mode) → (doubled i (x ∷ []) (m ∷ []) ≡ cond (is_doubled i x m) (m ∷ m ∷ []) (m ∷ []))
    × (characters_in i (x ∷ []) (m ∷ []) ≡ cond (is_doubled i x m) (character_for i x m ∷ character_for i x m ∷ []) (character_for i x m ∷ []))
written-one i x m = search (arith, doubled-step, characters_in-step, written-none i [])

-- bytes in reverse order are written as their characters in reverse order
pub written-reverse : (i : Interpretation) (xs : List ℕ) (ms : List Mode) → length xs ≡ length ms
    → (doubled i (reverse xs) (reverse ms) ≡ reverse (doubled i xs ms)) × (characters_in i (reverse xs) (reverse ms) ≡ reverse (characters_in i xs ms))
written-reverse i [] [] h = search (arith, written-none i [])
written-reverse i [] (m ∷ ms) h = absurd (omega arith)
written-reverse i (x ∷ xs) [] h = absurd (omega arith)
written-reverse i (x ∷ xs) (m ∷ ms) h =
    let rest = written-reverse i xs ms (omega arith) in
    let c = character_for i x m in
    let both = written-append i (reverse xs) (x ∷ []) (reverse ms) (m ∷ []) (rw (length-reverse xs, length-reverse ms) (omega arith)) in
    rw (reverse-append (x ∷ []) xs, reverse-append (m ∷ []) ms, both.0, both.1)
    (search (
      arith,
      written-one,
      doubled-step,
      characters_in-step,
      cond_both,
      reverse-append (m ∷ m ∷ []) (doubled i xs ms),
      reverse-append (m ∷ []) (doubled i xs ms),
      reverse-append (c ∷ c ∷ []) (characters_in i xs ms),
      reverse-append (c ∷ []) (characters_in i xs ms),
    ))

-- there are as many characters more than bytes as modes of characters more than modes of bytes
pub length-written : (i : Interpretation) (xs : List ℕ) (ms : List Mode) → length (characters_in i xs ms) + length ms ≡ length (doubled i xs ms) + length xs
length-written i [] ms = search (arith, written-none)
length-written i (x ∷ xs) [] = search (arith, unwritten)
length-written i (x ∷ xs) (m ∷ ms) =
    search (arith, doubled-step, characters_in-step, cond_both, length-written i xs ms)

-- no byte is left out, and each is at most two characters
pub characters-length : (i : Interpretation) (xs : List ℕ) (ms : List Mode) → (length xs ≤ length (characters_in i xs ms)) × (length (characters_in i xs ms) ≤ 2 * length xs)
characters-length i [] ms = search (arith, written-none i ms)
characters-length i (x ∷ xs) [] = search (arith, unwritten i x xs)
characters-length i (x ∷ xs) (m ∷ ms) = search (arith, characters_in-step, cond_both, characters-length i xs ms)

-- the least segmentation has at most twice as many characters as the input has bytes
pub least-most : (i : Interpretation) (v : ℕ) (r : Rule) (xs ys : List ℕ) (segs : List Segment) → IsLeastSegmentation i v r xs ys segs → length ys ≤ 2 * length xs
least-most i v r xs ys segs h = rw h.3 (characters-length i xs h.0).1

character-sixths : (i : Interpretation) (x : ℕ) (m : Mode) → least_sixths x ≤ least_sixths (character_for i x m)
character-sixths i x m = grind arith

-- the characters take no less than the lower bound for the bytes
pub characters-sixths : (i : Interpretation) (xs : List ℕ) (ms : List Mode) → sum_by least_sixths xs ≤ sum_by least_sixths (characters_in i xs ms)
characters-sixths i [] ms = omega arith
characters-sixths i (x ∷ xs) [] = rw (unwritten i x xs).1 (omega arith)
characters-sixths i (x ∷ xs) (m ∷ ms) =
    rw (characters_in-step i x xs m ms)
    (cond_both (is_doubled i x m) _ _ (λ (r : List ℕ). sum_by least_sixths (x ∷ xs) ≤ sum_by least_sixths r)
    (λ _. omega (arith, sum_by-cons, character-sixths i x m, characters-sixths i xs ms)) (λ _. omega (arith, sum_by-cons, character-sixths i x m, characters-sixths i xs ms)))

-- in this mode each byte is itself
abbrev IsItself : Interpretation → Mode → Type 0
IsItself i m = (x : ℕ) → (is_doubled i x m ≡ false) × (character_for i x m ≡ x)

-- if in this mode each byte is itself, bytes are written as themselves
written-itself : (i : Interpretation) (m : Mode) (xs : List ℕ) (n : ℕ) → IsItself i m → (characters_in i xs (replicate n m) ≡ xs) × (doubled i xs (replicate n m) ≡ replicate n m)
written-itself i m [] n h = search (arith, written-none i (replicate n m))
written-itself i m (x ∷ xs) zero h = search (arith, unwritten i x xs)
written-itself i m (x ∷ xs) (suc n) h = search (arith, characters_in-step, doubled-step, written-itself i m xs n h)

-- in byte mode and in numeric mode each byte is itself
pub written-bytes : (i : Interpretation) (xs : List ℕ) (n : ℕ) → (characters_in i xs (replicate n Byte) ≡ xs) × (doubled i xs (replicate n Byte) ≡ replicate n Byte)
written-bytes i xs n = written-itself i Byte xs n (search (arith, single-byte))

pub written-digits : (i : Interpretation) (xs : List ℕ) (n : ℕ) → (characters_in i xs (replicate n Numeric) ≡ xs) × (doubled i xs (replicate n Numeric) ≡ replicate n Numeric)
written-digits Default xs n = (refl, refl)
written-digits (Eci k) xs n = (refl, refl)
written-digits Gs1 xs n = written-itself Gs1 Numeric xs n (λ x. (refl, refl))

pub fields-drop : (n : ℕ) (xs : List ℕ) → are_fields xs ≡ true → are_fields (drop n xs) ≡ true
unfolding are_fields
fields-drop zero xs h = h
fields-drop (suc n) [] h = refl
fields-drop (suc n) (x ∷ xs) h = fields-drop n xs (search (arith, and_parts))

-- the first `n` bytes of fields are fields too
pub fields-take : (n : ℕ) (xs : List ℕ) → are_fields xs ≡ true → are_fields (take n xs) ≡ true
unfolding are_fields
fields-take zero xs h = refl
fields-take (suc n) [] h = refl
fields-take (suc zero) (x ∷ xs) h = refl
fields-take (suc (suc n)) (x ∷ []) h = refl
fields-take (suc (suc n)) (x ∷ y ∷ ys) h =
    let both = and_parts _ (are_fields (y ∷ ys)) h in
    and_from _ _ both.0 (fields-take (suc n) (y ∷ ys) both.1)

-- A prefix of what may be written may be written, and so may the rest.
pub may_write-take : (i : Interpretation) (n : ℕ) (xs : List ℕ) → MayWrite i xs → MayWrite i (take n xs)
may_write-take i n xs h = grind (arith, fields-take)

-- No byte may always be written.
pub may_write-none : (i : Interpretation) → MayWrite i []
unfolding are_fields
may_write-none i = grind arith

pub may_write-drop : (i : Interpretation) (n : ℕ) (xs : List ℕ) → MayWrite i xs → MayWrite i (drop n xs)
may_write-drop i n xs h = grind (arith, fields-drop)
