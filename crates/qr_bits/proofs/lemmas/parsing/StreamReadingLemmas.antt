-- Numbers, segments and headers that are written are read back, and what is read is written as the same bits.
use Rattle.std.proofs.Common.{◌≡◌, ℕ, ◌^◌, ◌<◌, ◌≤◌, Bool, true, false, ◌==◌, nat_le, All, List, [], ◌∷◌, ◌++◌, length, take, drop, Ok, Option, Some, refl, subst, ⊎_elim, arith, lit<, append_assoc, length-append}
use Rattle.std.proofs.lemmas.{Bool.{le-ltb, le-leb, ltb-false, cases_Bool, eqb-true, and_parts}, List.{length-drop, drop-drop, take-append-drop}}
use Rattle.std.proofs.Math.Seq.{drop-append_seam}
use borrow.Author.Tests.{leb-true}
use Rattle.qr_bits.specs.declared.{modes.Mode.Mode, segmentation.Segment.Segment, stream.Header.Header}
use Rattle.qr_bits.specs.{Bits.{field, value}, Header.{header_indicator, header_stream, HeaderFits}}
use Rattle.qr_bits.specs.declared.interpretation.Item.{Item, TheVariants.{Data, Eci, Fnc1First, Fnc1Second}}
use Rattle.qr_bits.specs.{Modes.{character_count, count_width, byte_count, payload_bits, suits, indicator}, Stream.{payload, segment_stream, designator_of, items_stream}}
use Rattle.qr_bits.specs.Parsing.{values_of, mode_of, ends, leading_number, payload_at, segment_at, item_at, begins_header, header_at, first_header}
use Rattle.qr_bits.proofs.lemmas.{bits.BitLemmas.length-field, parsing.{PayloadLemmas.value-take-below, ValueLemmas.{values-again, values-takes}}}
use Rattle.qr_bits.proofs.lemmas.{parsing.ParsingLemmas.{bind-ok, guard-ok, same-ok, header-whole}, stream.WritingLemmas.{in_twos-even, length-payload}}
use Rattle.qr_bits.proofs.lemmas.stream.StreamLemmas.{IsWritten, drop-field, read-field, field-read}

pub number-again : (w n : ℕ) (rest : List Bool) → n < 2 ^ w → leading_number w (field w n ++ rest) ≡ Ok (n, rest)
unfolding leading_number
number-again w n rest h = search (arith, length-append, length-field, le-ltb, read-field, drop-field)

pub number-takes : (w : ℕ) (bits : List Bool) (n : ℕ × List Bool) → leading_number w bits ≡ Ok n → (n.0 < 2 ^ w) × (bits ≡ field w n.0 ++ n.1)
unfolding leading_number
number-takes w bits n h = search (arith, guard-ok, same-ok, value-take-below, field-read, ltb-false, take-append-drop)

len-again : (m : Mode) (xs : List ℕ) → suits m xs ≡ true → byte_count m (character_count m (length xs)) ≡ length xs
len-again m xs h = grind (arith, in_twos-even)

payload-again : (m : Mode) (xs : List ℕ) (rest : List Bool) → All (λ b. b < 256) xs → suits m xs ≡ true → payload_at m (character_count m (length xs)) (payload m xs ++ rest) ≡ Ok (xs, rest)
unfolding payload_at
payload-again m xs rest bytes h =
    search (arith, len-again, length-payload, length-append, drop-append_seam, le-ltb, values-again)

-- if the data of a segment are read, they are written as the same bits
payload-takes : (m : Mode) (n : ℕ) (bits : List Bool) (p : List ℕ × List Bool) → payload_at m n bits ≡ Ok p → IsWritten m n bits p.0 × (p.1 ≡ drop (payload_bits m (byte_count m n)) bits)
unfolding payload_at
payload-takes m n bits p h =
    let g = guard-ok _ _ _ p h in
    let b = bind-ok (values_of m n bits) _ p g.1 in
    search (arith, same-ok, values-takes m n b.0 bits (ltb-false _ _ g.0) b.1)

mode-again : (m : Mode) → mode_of (indicator m) ≡ Ok m
unfolding mode_of
mode-again m = grind arith

mode-takes : (n : ℕ) (m : Mode) → mode_of n ≡ Ok m → n ≡ indicator m
unfolding mode_of
mode-takes n m h = grind (arith, eqb-true, same-ok)

indicator-most : (m : Mode) → indicator m < 2 ^ 4
indicator-most m = grind arith

-- the stream of a segment begins with its mode indicator, of four bits
first-four : (v : ℕ) (m : Mode) (xs : List ℕ) (rest : List Bool) → (value (take 4 (segment_stream v m xs ++ rest)) ≡ indicator m) × (4 ≤ length (segment_stream v m xs ++ rest))
unfolding segment_stream
first-four v m xs rest =
    let behind = field (count_width v m) (character_count m (length xs)) ++ payload m xs in
    rw (append_assoc (field 4 (indicator m)) behind rest)
    (read-field 4 (indicator m) (behind ++ rest) (indicator-most m), omega (arith, length-append (field 4 (indicator m)) (behind ++ rest), length-field 4 (indicator m)))

-- a segment that was read is the stream of these bytes, with the rest after it
pub record IsSegment (v : ℕ) (bits : List Bool) (s : Segment) (xs : List ℕ) (rest : List Bool) : Type 0 where
  pub long : length xs ≡ s.len
  pub bytes : All (λ b. b < 256) xs
  pub suited : suits s.mode xs ≡ true
  pub fits : character_count s.mode s.len < 2 ^ count_width v s.mode
  pub whole : bits ≡ segment_stream v s.mode xs ++ rest

-- if the indicators and the data of a segment were read, the segment was read
segment-from : (v : ℕ) (m : Mode) (bits : List Bool) (n : ℕ × List Bool) (p : List ℕ × List Bool) → 4 ≤ length bits → value (take 4 bits) ≡ indicator m
    → (n.0 < 2 ^ count_width v m) × (drop 4 bits ≡ field (count_width v m) n.0 ++ n.1) → IsWritten m n.0 n.1 p.0 × (p.1 ≡ drop (payload_bits m (byte_count m n.0)) n.1)
    → IsSegment v bits (record { mode = m; len = byte_count m n.0 }) p.0 p.1
unfolding segment_stream
segment-from v m bits n p four e number said =
    search (arith, append_assoc, take-append-drop, field-read 4 bits four)

-- if a segment is read, its stream comes first in the bits that were read
pub segment-takes : (v : ℕ) (bits : List Bool) (s : Segment × List ℕ × List Bool) → 4 ≤ length bits → segment_at v bits ≡ Ok s → IsSegment v bits s.0 s.1 s.2
unfolding segment_at segment_stream
segment-takes v bits s four h =
    let m = bind-ok (mode_of (value (take 4 bits))) _ s h in
    let n = bind-ok (leading_number (count_width v m.0) (drop 4 bits)) _ s m.2 in
    let p = bind-ok (payload_at m.0 n.0.0 n.0.1) _ s n.2 in
    search (arith, same-ok, segment-from v m.0 bits n.0 p.0 four (mode-takes _ _ m.1) (number-takes _ _ _ n.1) (payload-takes _ _ _ _ p.1))

pub opens : (v : ℕ) (m : Mode) (xs : List ℕ) (rest : List Bool) → ends (segment_stream v m xs ++ rest) ≡ false
unfolding ends
opens v m xs rest = grind (arith, first-four, le-ltb)

-- the indicator of a mode is that of no other item
item-segment : (v : ℕ) (may : Bool) (bits : List Bool) (s : Segment × List ℕ × List Bool) → segment_at v bits ≡ Ok s → item_at v may bits ≡ Ok (Data s.0, s.1, s.2)
unfolding item_at segment_at mode_of
item-segment v may bits s h = grind (arith, eqb-true)

pub item-again : (v : ℕ) (may : Bool) (m : Mode) (xs : List ℕ) (rest : List Bool) → All (λ b. b < 256) xs → suits m xs ≡ true → character_count m (length xs) < 2 ^ count_width v m
    → item_at v may (segment_stream v m xs ++ rest) ≡ Ok (Data (record { mode = m; len = length xs }), xs, rest)
unfolding segment_at segment_stream
item-again v may m xs rest bytes suited fits = item-segment v may _ _ (search (arith, append_assoc, read-field, indicator-most, mode-again, drop-field, number-again, payload-again, len-again))

starts : (rest : List Bool) → begins_header (field 4 header_indicator ++ rest) ≡ true
unfolding begins_header
starts rest =
    rw (le-leb 4 (length (field 4 header_indicator ++ rest)) (search (arith, length-append, length-field)), read-field 4 header_indicator rest (lit< tt)) refl

-- if bits begin with the mode indicator of a header, they are its four bits and the others
started : (bits : List Bool) → begins_header bits ≡ true → bits ≡ field 4 header_indicator ++ drop 4 bits
unfolding begins_header
started bits h =
    let p = and_parts (nat_le 4 (length bits)) (value (take 4 bits) == 3) h in
    cc (eqb-true _ 3 p.1, field-read 4 bits (leb-true 4 (length bits) p.0), take-append-drop 4 bits)

-- 16 bits at the beginning are three numbers, of 4, 4 and 8 bits
header-parts : (bits : List Bool) → 16 ≤ length bits
    → bits ≡ (field 4 (value (take 4 bits)) ++ (field 4 (value (take 4 (drop 4 bits))) ++ field 8 (value (take 8 (drop 8 bits))))) ++ drop 16 bits
header-parts bits long =
    let a = field-read 4 bits (omega arith) in
    let b = field-read 4 (drop 4 bits) (omega (arith, length-drop 4 bits)) in
    search (arith, take-append-drop 8 (drop 8 bits), field-read 8 (drop 8 bits) (omega (arith, length-drop 8 bits)))

-- the stream of a header, with any bits after it, is read as this header
header-again : (h : Header) (rest : List Bool) → HeaderFits (Some h) → first_header (header_stream (Some h) ++ rest) ≡ Ok (Some h, rest)
unfolding first_header header_stream
header-again h rest all_fit =
    let fits = all_fit h refl in
    let p = field 4 h.position in
    let l = field 4 h.last in
    let q = field 8 h.parity in
    let behind : List Bool = p ++ (l ++ (q ++ rest)) in
    let whole : (field 4 header_indicator ++ (p ++ (l ++ q))) ++ rest ≡ field 4 header_indicator ++ behind =
    search (arith, append_assoc) in
    let long : 16 ≤ length behind = search (arith, length-append, length-field) in
    let after_p : drop 4 behind ≡ l ++ (q ++ rest) = drop-field 4 h.position (l ++ (q ++ rest)) in
    let after_l : drop 8 behind ≡ q ++ rest = cc (drop-drop 4 4 behind, drop-field 4 h.last (q ++ rest)) in
    let after_q : drop 16 behind ≡ rest = cc (drop-drop 8 8 behind, drop-field 8 h.parity rest) in
    let d = drop-field 4 header_indicator behind in
    search (arith, starts, header-whole, read-field 4 h.position (l ++ (q ++ rest)) fits.0, read-field 4 h.last (q ++ rest) fits.1, read-field 8 h.parity rest fits.2)

pub first-again : (h : Option Header) (rest : List Bool) → HeaderFits h → begins_header rest ≡ false → first_header (header_stream h ++ rest) ≡ Ok (h, rest)
unfolding first_header header_stream
first-again h rest fits e = grind (arith, append_assoc, header-again)

-- four bits that are no header's indicator
other-begins : (n : ℕ) (rest : List Bool) → n < 2 ^ 4 → (n == 3) ≡ false → begins_header (field 4 n ++ rest) ≡ false
unfolding begins_header
other-begins n rest few other = grind (arith, read-field 4 n rest few)

pub other-opens : (n : ℕ) (rest : List Bool) → n < 2 ^ 4 → (n == 0) ≡ false → ends (field 4 n ++ rest) ≡ false
unfolding ends
other-opens n rest few other = grind (arith, read-field 4 n rest few, length-append (field 4 n) rest, length-field 4 n, le-ltb)

-- the stream of items and an end is not taken for a header
pub items-begin : (v : ℕ) (xs : List ℕ) (items : List Item) (tail : List Bool) → ends tail ≡ true → begins_header (items_stream v xs items ++ tail) ≡ false
unfolding begins_header items_stream ends
items-begin v xs [] tail e = search arith
items-begin v xs (Data s ∷ is) tail e = grind (arith, first-four, append_assoc, le-leb)
items-begin v xs (Eci d ∷ is) tail e = rw (append_assoc (field 4 7) (designator_of d.codewords d.number ++ items_stream v xs is) tail) (other-begins 7 _ (lit< tt) refl)
items-begin v xs (Fnc1First ∷ is) tail e = rw (append_assoc (field 4 5) (items_stream v xs is) tail) (other-begins 5 _ (lit< tt) refl)
items-begin v xs (Fnc1Second a ∷ is) tail e = rw (append_assoc (field 4 9) (field 8 a ++ items_stream v xs is) tail) (other-begins 9 _ (lit< tt) refl)

fits-of : (h : Header) → h.position < 16 → h.last < 16 → h.parity < 256 → HeaderFits (Some h)
fits-of h a b d = search arith

-- if a header is read after its mode indicator, it is written as the same bits
header-takes : (bits : List Bool) (r : Header × List Bool) → header_at bits ≡ Ok r → HeaderFits (Some r.0) × (bits ≡ (field 4 r.0.position ++ (field 4 r.0.last ++ field 8 r.0.parity)) ++ r.1)
unfolding header_at
header-takes bits r h =
    let P : Header × List Bool → Type 0 = λ t. HeaderFits (Some t.0) × (bits ≡ (field 4 t.0.position ++ (field 4 t.0.last ++ field 8 t.0.parity)) ++ t.1) in
    subst P (search (arith, same-ok))
    (fits-of _ (value-take-below 4 bits) (value-take-below 4 (drop 4 bits)) (value-take-below 8 (drop 8 bits)), header-parts bits (ltb-false _ _ (guard-ok _ _ _ r h).0))

-- if a header is read, or none, its stream comes first in the bits that were read
pub first-takes : (bits : List Bool) (r : Option Header × List Bool) → first_header bits ≡ Ok r → HeaderFits r.0 × (bits ≡ header_stream r.0 ++ r.1)
unfolding first_header header_stream
first-takes bits r h = ⊎_elim (λ (e : begins_header bits ≡ true).
    let q = bind-ok (header_at (drop 4 bits)) _ r (rw e at h) in
    search (arith, same-ok, append_assoc, started, header-takes (drop 4 bits) q.0 q.1)) (search (arith, same-ok)) (cases_Bool (begins_header bits))
