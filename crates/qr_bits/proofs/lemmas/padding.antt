-- The terminator and the pad codewords.
use Rattle.qr_bits.proofs.lemmas.{bits.BitLemmas.{length-field, length-bits_of, bits_of-append, field-zero}, interpretation.characters-length}
use Rattle.qr_bits.proofs.lemmas.segmentation.{CoverLemmas.{CoversBy, covers-suits, covers-by, by-covers}, SegmentLemmas.{segment-least, bits-least}}
use Rattle.qr_bits.specs.{Bits.{field, bits_of}, Header.{header_stream, header_bits}}
use Rattle.qr_bits.specs.{Interpretation.{interpretation_stream, interpretation_bits, designator, characters_in}, Modes.{is_kanji_pair, count_width}}
use Rattle.qr_bits.specs.{Padding.{capacity_of, filled, pads, padded, IsData}, Segmentation.{bits, Covers, HasFit}, Stream.{IsStream, CountsFit}}
use Rattle.qr_bits.specs.declared.{interpretation.Interpretation.Interpretation, modes.{Mode.Mode, Rule.Rule}, segmentation.Segment.Segment}
use Rattle.{qr_bits.specs.declared.stream.Header.Header, qr_layout.proofs.Facts.{below, below-at}}
use Rattle.qr_layout.specs.{Blocks.{data_codewords_of, correction_len_of, block_count_of}, Version.total_codewords_of, declared.level.Level.Level}
use Rattle.std.proofs.Common.{◌≡◌, ℕ, zero, suc, ◌+◌, ◌-◌, ◌%◌, ◌<◌, ◌≤◌, min, ◌==◌, Bool, cond, List, [], ◌∷◌, ◌++◌, length, length-append, refl, arith, All, ◌*◌, true, false, ◌&&◌, leb, drop}
use Rattle.std.{proofs.lemmas.{Bool.{le-leb, lt-leb, and_parts}, List.length-drop}, specs.Prelude.Option}
use borrow.Author.Tests.{leb-true}

-- one more pad codeword at the end is EC after an even number of them, and 11 after an odd one
pads-push : (n : ℕ) → pads (n + 1) ≡ pads n ++ cond (n % 2 == 0) 0xEC 0x11 ∷ []
unfolding pads
pads-push zero = refl
pads-push (suc zero) = refl
pads-push (suc (suc n)) =
    let one : suc (suc n) + 1 ≡ suc (suc (n + 1)) = omega arith in
    search (arith, pads-push n)

-- an even number of pad codewords is followed by EC
pub pads-even : (n : ℕ) → n % 2 ≡ 0 → pads (n + 1) ≡ pads n ++ 0xEC ∷ []
pads-even n h = rw h at (pads-push n)

-- an odd number of pad codewords is followed by 11
pub pads-odd : (n : ℕ) → (n % 2 ≡ 0 → ⊥) → pads (n + 1) ≡ pads n ++ 0x11 ∷ []
pads-odd n h = search (arith, pads-push)

-- no pad codeword
pub pads-none : (n : ℕ) → n ≡ 0 → pads n ≡ []
unfolding pads
pads-none n h = grind arith

-- the whole codewords of the stream and its terminator, followed by pad codewords, are the data codewords
pub is-data : (v : ℕ) (l : Level) (xs : List ℕ) (segs : List Segment) (h : Option Header) (i : Interpretation) (stream : List Bool)
    (used : ℕ) (whole cw : List ℕ) → IsStream v xs segs h i stream → length stream ≡ used →
    used ≤ capacity_of v l → bits_of whole ≡ filled (stream ++ field (min 4 (capacity_of v l - used)) 0) →
    cw ≡ whole ++ pads (data_codewords_of v l - length whole) → All (λ b. b < 256) cw → IsData v l xs segs h i cw
unfolding padded
is-data v l xs segs h i stream used whole cw is len fits filling padding bytes =
    search (arith, bits_of, field-zero, length-bits_of, bits_of-append)

-- the length of a header's bits
pub length-header_stream : (h : Option Header) → length (header_stream h) ≡ header_bits h
unfolding header_stream
length-header_stream h = grind (arith, length-append, length-field)

-- the length of an ECI header or FNC1
pub length-interpretation_stream : (i : Interpretation) → length (interpretation_stream i) ≡ interpretation_bits i
unfolding interpretation_stream designator
length-interpretation_stream i = search (arith, length-append, length-field)

-- If the bits of segments fit a symbol, each count fits its field.

-- the most data codewords of the versions to 9, to 26 and to 40
abbrev most_data : ℕ → ℕ
most_data v = cond (leb v 9) 232 (cond (leb v 26) 1370 2956)

in-range : Level → ℕ → Bool
in-range l i = leb 9 (data_codewords_of (i + 1) l) && leb (data_codewords_of (i + 1) l) (most_data (i + 1))

-- there are at least 9 data codewords, and at most as many as `most_data` says
data-range : (v : ℕ) (l : Level) → 1 ≤ v → v ≤ 40 → (9 ≤ data_codewords_of v l) × (data_codewords_of v l ≤ most_data v)
unfolding in-range data_codewords_of total_codewords_of block_count_of correction_len_of
data-range v l a b =
    let e : v - 1 + 1 ≡ v = omega arith in
    let p = and_parts (leb 9 (data_codewords_of v l)) _ (rw e at (below-at 40 (in-range l) (search arith) (v - 1) (omega arith))) in
    (leb-true _ _ p.0, leb-true _ _ p.1)

-- the data codewords of a symbol have at least 72 bits
pub capacity-least : (v : ℕ) (l : Level) → 1 ≤ v → v ≤ 40 → 72 ≤ capacity_of v l
capacity-least v l a b = omega (arith, data-range v l a b)

groups : (v : ℕ) (P : Bool → Bool → Type 0) → (v ≤ 9 → P true true) → (9 < v → v ≤ 26 → P false true) → (26 < v → P false false) → P (leb v 9) (leb v 26)
groups v P small medium large = search (arith, le-leb, lt-leb)

-- the data codewords of a symbol have at most 23,648 bits
pub capacity-most : (v : ℕ) (l : Level) → 1 ≤ v → v ≤ 40 → capacity_of v l ≤ 23648
capacity-most v l a b = search (arith, groups, data-range)

-- up to version 26 the data codewords of a symbol have at most 10,960 bits
pub capacity-medium : (v : ℕ) (l : Level) → 1 ≤ v → v ≤ 26 → capacity_of v l ≤ 10960
capacity-medium v l a b =
    let most : most_data v ≤ 1370 = search (arith, groups) in
    omega (arith, data-range v l a (omega arith))

-- If the bits of segments fit a symbol, each count fits its field.
pub counts_fit : (v : ℕ) (l : Level) (segs : List Segment) → 1 ≤ v → v ≤ 40 → bits v segs ≤ capacity_of v l → CountsFit v segs
unfolding CountsFit
counts_fit v l [] a b h = tt
counts_fit v l (s ∷ ss) a b h = search (arith, data-range, counts_fit v l ss a b (omega arith))

head-least : (v : ℕ) (m : Mode) → 26 < v → 12 ≤ count_width v m
head-least v m h = grind arith

short-large : (v : ℕ) (xs : List ℕ) (segs : List Segment) → 26 < v → CoversBy is_kanji_pair xs segs → bits v segs ≤ 23648 → length xs ≤ 7089
unfolding CoversBy
short-large v xs [] h c few = search arith
short-large v xs (s ∷ ss) h c few =
    omega (arith, segment-least v s, head-least v s.mode h, bits-least v (drop s.len xs) ss (covers-suits (drop s.len xs) ss (by-covers _ _ c.3)), length-drop s.len xs, c.1)

-- If segments fit a symbol, they contain at most 7,089 characters.
pub covered-short : (v : ℕ) (l : Level) (ys : List ℕ) (segs : List Segment) → 1 ≤ v → v ≤ 40 → Covers ys segs → bits v segs ≤ capacity_of v l → length ys ≤ 7089
covered-short v l ys segs a b c few =
    search (arith, data-range, groups, bits-least, covers-suits, short-large, covers-by, capacity-most)

-- An input that fits a symbol has at most 7,089 bytes.
pub fitting-short : (i : Interpretation) (v : ℕ) (l : Level) (r : Rule) (xs : List ℕ) → 1 ≤ v → v ≤ 40 → HasFit i v r xs (capacity_of v l) → length xs ≤ 7089
fitting-short i v l r xs a b fit =
    omega (arith, (characters-length i xs fit.0).0, covered-short v l (characters_in i xs fit.0) _ a b fit.1.1 fit.2)

covered-few : (v : ℕ) (l : Level) (ys : List ℕ) (segs : List Segment) → 1 ≤ v → v ≤ 40 → Covers ys segs → bits v segs ≤ capacity_of v l → 10 * length ys ≤ 24 * most_data v
covered-few v l ys segs a b c few = search (arith, data-range, bits-least, covers-suits)

fitting-few : (i : Interpretation) (v : ℕ) (l : Level) (r : Rule) (xs : List ℕ) → 1 ≤ v → v ≤ 40 → HasFit i v r xs (capacity_of v l) → 10 * length xs ≤ 24 * most_data v
fitting-few i v l r xs a b fit =
    omega (arith, (characters-length i xs fit.0).0, covered-few v l (characters_in i xs fit.0) _ a b fit.1.1 fit.2)

no-more : ℕ → Level → ℕ → Bool
no-more m l i = leb (data_codewords_of (i + 1) l) (data_codewords_of m l)

all-nine : (l : Level) → below 9 (no-more 9 l) ≡ true
unfolding no-more data_codewords_of total_codewords_of block_count_of correction_len_of
all-nine l = grind arith

-- no version up to `m` has a greater capacity than `m`, if this was computed for all of them
last-most : (m v : ℕ) (l : Level) → below m (no-more m l) ≡ true → 1 ≤ v → v ≤ m → capacity_of v l ≤ capacity_of m l
unfolding no-more
last-most m v l all a b =
    let e : v - 1 + 1 ≡ v = omega arith in
    omega (arith, leb-true _ _ (rw e at (below-at m (no-more m l) all (v - 1) (omega arith))))

-- no version up to 9 has more room than version 9
pub capacity-nine : (v : ℕ) (l : Level) → 1 ≤ v → v ≤ 9 → capacity_of v l ≤ capacity_of 9 l
capacity-nine v l a b = search (arith, last-most, all-nine)

-- no version up to 26 has more room than version 26
pub capacity-26 : (v : ℕ) (l : Level) → 1 ≤ v → v ≤ 26 → capacity_of v l ≤ capacity_of 26 l
unfolding no-more data_codewords_of total_codewords_of block_count_of correction_len_of
capacity-26 v l a b = search (arith, last-most)

-- An input that fits a version up to 26 has at most 3,288 bytes.
pub fitting-medium : (i : Interpretation) (v : ℕ) (l : Level) (r : Rule) (xs : List ℕ) → 1 ≤ v → v ≤ 26 → HasFit i v r xs (capacity_of v l) → length xs ≤ 3288
fitting-medium i v l r xs a b fit =
    let most : most_data v ≤ 1370 = search (arith, groups) in
    omega (arith, fitting-few i v l r xs a (omega arith) fit)
