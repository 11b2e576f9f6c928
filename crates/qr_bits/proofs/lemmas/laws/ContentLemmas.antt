-- What is parsed from the data codewords of a symbol has few bytes and few ECI headers.
use Rattle.std.proofs.Common.{◌≡◌, ℕ, ◌+◌, ◌*◌, ◌<◌, ◌≤◌, Bool, true, false, List, [], ◌∷◌, ◌++◌, length, take, drop, Ok, ap, ⊎_elim, arith, length-append, IsTrue}
use Rattle.std.proofs.lemmas.{Bool.cases_lt, List.{length-take-le, take-append-drop, length-drop}}
use Rattle.qr_layout.specs.{Blocks.{capacity_of, data_codewords_of}, declared.level.Level.Level}
use Rattle.qr_bits.specs.declared.{modes.Mode.Mode, segmentation.Segment.Segment, interpretation.Item.{Item, TheVariants.{Data, Eci, Fnc1First, Fnc1Second}}}
use Rattle.qr_bits.specs.{Bits.{bits_of, field}, Header.header_stream, Interpretation.{separated, meant, meant_bytes, eci_changes}, Modes.{suits}, Segmentation.segment_bits}
use Rattle.qr_bits.specs.{Parsing.{Content, parse}, Stream.{AreItems, designator_of, items_stream, segment_stream}}
use Rattle.qr_bits.proofs.lemmas.{bits.BitLemmas.{length-bits_of, length-field}, padding.{capacity-medium, capacity-most}, parsing.ItemLemmas.content-said}
use Rattle.qr_bits.proofs.lemmas.{segmentation.SegmentLemmas.segment-least, stream.WritingLemmas.length-payload}

separated-length : (xs : List ℕ) → length (separated xs) ≤ length xs
unfolding separated
separated-length [] = omega arith
separated-length (x ∷ []) = grind arith
separated-length (x ∷ y ∷ xs) = grind (arith, separated-length xs, separated-length (y ∷ xs))

meant-length : (fnc1 : Bool) (m : Mode) (xs : List ℕ) → length (meant fnc1 m xs) ≤ length xs
meant-length fnc1 m xs = grind (arith, separated-length)

-- characters are cut in two without a loss
cut-length : (n : ℕ) (xs : List ℕ) → length (take n xs) + length (drop n xs) ≡ length xs
cut-length n xs = omega (arith, ap length (take-append-drop n xs), length-append (take n xs) (drop n xs))

-- items stand for no more bytes than there are characters
bytes-length : (fnc1 : Bool) (items : List Item) (xs : List ℕ) → length (meant_bytes fnc1 items xs) ≤ length xs
unfolding meant_bytes
bytes-length fnc1 [] xs = omega arith
bytes-length fnc1 (Data s ∷ is) xs =
    omega (arith, length-append (meant fnc1 s.mode (take s.len xs)) (meant_bytes fnc1 is (drop s.len xs)), meant-length fnc1 s.mode (take s.len xs), bytes-length fnc1 is (drop s.len xs), cut-length s.len xs)
bytes-length fnc1 (Eci d ∷ is) xs = bytes-length fnc1 is xs
bytes-length fnc1 (Fnc1First ∷ is) xs = bytes-length true is xs
bytes-length fnc1 (Fnc1Second a ∷ is) xs = bytes-length true is xs

designator-long : (w n : ℕ) (rest : List Bool) → 8 + length rest ≤ length (designator_of w n ++ rest)
unfolding designator_of
designator-long w n rest = grind (arith, length-append, length-field)

-- an ECI header has at least twelve bits
ecis-length : (v : ℕ) (fnc1 : Bool) (n : ℕ) (items : List Item) (xs : List ℕ) → 12 * length (eci_changes fnc1 n items xs) ≤ length (items_stream v xs items)
unfolding eci_changes items_stream
ecis-length v fnc1 n [] xs = omega arith
ecis-length v fnc1 n (Data s ∷ is) xs =
    omega (arith, length-append (segment_stream v s.mode (take s.len xs)) (items_stream v (drop s.len xs) is), ecis-length v fnc1 (n + length (meant fnc1 s.mode (take s.len xs))) is (drop s.len xs))
ecis-length v fnc1 n (Eci d ∷ is) xs =
    omega (arith, length-append (field 4 7) (designator_of d.codewords d.number ++ items_stream v xs is), length-field 4 7, designator-long d.codewords d.number (items_stream v xs is), ecis-length v fnc1 n is xs)
ecis-length v fnc1 n (Fnc1First ∷ is) xs = omega (arith, length-append (field 4 5) (items_stream v xs is), ecis-length v true n is xs)
ecis-length v fnc1 n (Fnc1Second a ∷ is) xs =
    omega (arith, length-append (field 4 9) (field 8 a ++ items_stream v xs is), length-append (field 8 a) (items_stream v xs is), ecis-length v true n is xs)

-- the length of a segment's bits
segment-length : (v : ℕ) (s : Segment) (xs : List ℕ) → s.len ≤ length xs → IsTrue (suits s.mode (take s.len xs)) → length (segment_stream v s.mode (take s.len xs)) ≡ segment_bits v s
unfolding segment_stream
segment-length v s xs few suited = search (arith, length-take-le, length-append, length-field, length-payload)

-- from version 27 on, a segment that is not empty has 18 bits and ten more for three bytes, or more
large-segment : (v : ℕ) (s : Segment) → 26 < v → 0 < s.len → 10 * s.len + 54 ≤ 3 * segment_bits v s
large-segment v s large some = grind arith

-- items have at least ten bits for three characters
items-long : (v : ℕ) (may : Bool) (xs : List ℕ) (items : List Item) → AreItems v may xs items → 10 * length xs ≤ 3 * length (items_stream v xs items)
unfolding AreItems items_stream
items-long v may xs [] are = omega (arith, ap length are)
items-long v may xs (Data s ∷ is) are =
    omega (arith, length-append (segment_stream v s.mode (take s.len xs)) (items_stream v (drop s.len xs) is), segment-length v s xs are.0 are.1, segment-least v s, items-long v false (drop s.len xs) is are.3, length-drop s.len xs)
items-long v may xs (Eci d ∷ is) are =
    omega (arith, length-append (field 4 7) (designator_of d.codewords d.number ++ items_stream v xs is), designator-long d.codewords d.number (items_stream v xs is), items-long v may xs is are.1)
items-long v may xs (Fnc1First ∷ is) are = omega (arith, length-append (field 4 5) (items_stream v xs is), items-long v false xs is are.1)
items-long v may xs (Fnc1Second a ∷ is) are =
    omega (arith, length-append (field 4 9) (field 8 a ++ items_stream v xs is), length-append (field 8 a) (items_stream v xs is), items-long v false xs is are.2)

-- from version 27 on, items with characters have 18 bits and ten more for three characters, or more
items-longer : (v : ℕ) (may : Bool) (xs : List ℕ) (items : List Item) → 26 < v → AreItems v may xs items → 0 < length xs → 10 * length xs + 54 ≤ 3 * length (items_stream v xs items)
unfolding AreItems items_stream
items-longer v may xs [] large are some = absurd (omega (arith, ap length are))
items-longer v may xs (Data s ∷ is) large are some =
    let joined = length-append (segment_stream v s.mode (take s.len xs)) (items_stream v (drop s.len xs) is) in
    ⊎_elim (λ (none : s.len < 1). omega (arith, joined, length-drop s.len xs, items-longer v false (drop s.len xs) is large are.3 (omega (arith, length-drop s.len xs))))
    (λ (one : 1 ≤ s.len). omega (arith, joined, segment-length v s xs are.0 are.1, large-segment v s large one, items-long v false (drop s.len xs) is are.3, length-drop s.len xs))
    (cases_lt s.len 1)
items-longer v may xs (Eci d ∷ is) large are some =
    omega (arith, length-append (field 4 7) (designator_of d.codewords d.number ++ items_stream v xs is), designator-long d.codewords d.number (items_stream v xs is), items-longer v may xs is large are.1 some)
items-longer v may xs (Fnc1First ∷ is) large are some = omega (arith, length-append (field 4 5) (items_stream v xs is), items-longer v false xs is large are.1 some)
items-longer v may xs (Fnc1Second a ∷ is) large are some =
    omega (arith, length-append (field 4 9) (field 8 a ++ items_stream v xs is), length-append (field 8 a) (items_stream v xs is), items-longer v false xs is large are.2 some)

-- items whose bits are as few as those of the data codewords have at most 7,089 characters
items-short : (v : ℕ) (l : Level) (xs : List ℕ) (items : List Item) → 1 ≤ v → v ≤ 40 → AreItems v true xs items → length (items_stream v xs items) ≤ capacity_of v l → length xs ≤ 7089
items-short v l xs items a b are few =
    ⊎_elim (λ (h : v < 27). omega (arith, items-long v true xs items are, capacity-medium v l a (omega arith)))
    (λ (h : 27 ≤ v). ⊎_elim (λ (none : length xs < 1). omega arith) (λ (some : 1 ≤ length xs). omega (arith, items-longer v true xs items h are some, capacity-most v l a b)) (cases_lt (length xs) 1))
    (cases_lt v 27)

-- What is parsed from the data codewords of a symbol has at most 7,089 bytes and 1,970 ECI headers.
pub parsed-few : (v : ℕ) (l : Level) (message : List ℕ) (c : Content) → 1 ≤ v → v ≤ 40 → length message ≡ data_codewords_of v l → parse v (bits_of message) ≡ Ok c
    → (length c.bytes ≤ 7089) × (length c.ecis ≤ 1970)
parsed-few v l message c a b many h =
    let said = content-said v (bits_of message) c h in
    let items = said.0 in
    let xs = said.1 in
    let stream = items_stream v xs items in
    let few : length stream ≤ capacity_of v l =
    omega (arith, ap length said.6, length-append (header_stream c.header) (stream ++ said.2), length-append stream said.2, length-bits_of message) in
    rw said.8
    (omega (arith, bytes-length false items xs, items-short v l xs items a b said.5 few), omega (arith, ecis-length v false 0 items xs, few, capacity-most v l a b))
