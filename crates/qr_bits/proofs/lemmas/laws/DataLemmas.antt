-- Data codewords: a stream that fits a symbol has one list of them, and a parse returns what they were made of.
use Rattle.qr_bits.proofs.lemmas.{bits.BitLemmas.length-bits_of, interpretation.plain-meant, padding.{length-header_stream, length-interpretation_stream}}
use Rattle.qr_bits.proofs.lemmas.{parsing.{ItemLemmas.parse-again, ValueLemmas.{bytes-again, bytes-takes}}, stream.WritingLemmas.length-segments_stream}
use Rattle.qr_bits.specs.{Bits.bits_of, Header.header_bits, Interpretation.{interpretation_bits, items_in}}
use Rattle.qr_bits.specs.{Padding.{capacity_of, terminated, filled, pads, padded, IsData}, Parsing.{content_of, plain_content, ends, parse}, Segmentation.bits}
use Rattle.qr_bits.specs.{Stream.IsStream, declared.{interpretation.Interpretation.{Interpretation, TheVariants.Default}, segmentation.Segment.Segment}}
use Rattle.{qr_bits.specs.declared.stream.Header.Header, qr_layout.specs.{Blocks.data_codewords_of, declared.level.Level.Level}}
use Rattle.std.proofs.Common.{◌≡◌, ℕ, zero, suc, ◌+◌, ◌-◌, ◌*◌, ◌/◌, ◌%◌, ◌<◌, ◌≤◌, min, Bool, true, false, All, List, [], ◌++◌, length, replicate, Ok, Option, refl, ap, ⊎_elim, arith, append_assoc, length-append, append-nil}
use Rattle.std.proofs.lemmas.{Bool.{lt-ltb, cases_lt, or_right}, List.{length-replicate, drop_all}}

-- The length of a stream is the number of bits of its header and its segments.
pub length-stream : (v : ℕ) (xs : List ℕ) (segs : List Segment) (h : Option Header) (i : Interpretation) (stream : List Bool) → IsStream v xs segs h i stream → length stream ≡ header_bits h + interpretation_bits i + bits v segs
length-stream v xs segs h i stream is = search (arith, length-append, length-header_stream, length-interpretation_stream, length-segments_stream)

length-pads : (n : ℕ) → length (pads n) ≡ n
unfolding pads
length-pads zero = refl
length-pads (suc zero) = refl
length-pads (suc (suc n)) = cc (length-pads n)

length-padded : (n : ℕ) (stream : List Bool) → length stream ≤ 8 * n → length (padded n stream) ≡ 8 * n
unfolding padded
length-padded n stream h = grind (arith, length-append, length-replicate, bits_of, length-bits_of, length-pads)

-- what is appended to a stream to make data codewords of it is an end
tail-of : (n : ℕ) (stream : List Bool) → length stream ≤ 8 * n → (tail : List Bool) × (padded n stream ≡ stream ++ tail) × (ends tail ≡ true)
unfolding padded ends
tail-of n stream h =
    let t = replicate (min 4 (8 * n - length stream)) false in
    let f = replicate ((8 - length (terminated (8 * n) stream) % 8) % 8) false in
    let p = bits_of (pads (n - length (filled (terminated (8 * n) stream)) / 8)) in
    let whole : ((stream ++ t) ++ f) ++ p ≡ stream ++ (t ++ (f ++ p)) = search (arith, append_assoc) in (
      t ++ (f ++ p),
      whole,
      ⊎_elim (λ (l : 8 * n - length stream < 4).
          let len : length stream + length (t ++ (f ++ p)) ≡ 8 * n = cc (length-append stream (t ++ (f ++ p)), length-padded n stream h) in
          rw (lt-ltb (length (t ++ (f ++ p))) 4 (omega arith)) refl) (search (arith, or_right))
          (cases_lt (8 * n - length stream) 4),
    )

-- A parse of data codewords returns what they were made of.
pub data-again : (v : ℕ) (l : Level) (xs : List ℕ) (segs : List Segment) (h : Option Header) (i : Interpretation) (cw : List ℕ) → IsData v l xs segs h i cw
    → parse v (bits_of cw) ≡ Ok (content_of h (items_in i segs) xs)
data-again v l xs segs h i cw d = search (arith, parse-again, tail-of (data_codewords_of v l) d.stream d.fits)

-- As `data-again`, without an ECI header and FNC1.
pub data-plain : (v : ℕ) (l : Level) (xs : List ℕ) (segs : List Segment) (h : Option Header) (cw : List ℕ) → IsData v l xs segs h Default cw
    → parse v (bits_of cw) ≡ Ok (plain_content h segs xs)
data-plain v l xs segs h cw d = cc (data-again v l xs segs h Default cw d, plain-meant h segs xs d.is_stream.suit)

-- If a stream fits a symbol, there are data codewords.
pub data-found : (v : ℕ) (l : Level) (xs : List ℕ) (segs : List Segment) (h : Option Header) (i : Interpretation) (stream : List Bool) → IsStream v xs segs h i stream → length stream ≤ capacity_of v l
    → (cw : List ℕ) × IsData v l xs segs h i cw
data-found v l xs segs h i stream is fits =
    let n = data_codewords_of v l in
    let len = length-padded n stream fits in
    let w = bytes-takes n (padded n stream) (omega arith) in
    grind (arith, drop_all, bits_of, append-nil)

same-bytes : (xs ys : List ℕ) → All (λ b. b < 256) xs → All (λ b. b < 256) ys → bits_of xs ≡ bits_of ys → xs ≡ ys
same-bytes xs ys a b e =
    let len : length xs ≡ length ys = omega (arith, ap length e, length-bits_of xs, length-bits_of ys) in
    cc (bytes-again xs [] a, bytes-again ys [] b)

-- There is only one list of data codewords.
pub data-one : (v : ℕ) (l : Level) (xs : List ℕ) (segs : List Segment) (h : Option Header) (i : Interpretation) (cw dw : List ℕ) → IsData v l xs segs h i cw → IsData v l xs segs h i dw → cw ≡ dw
data-one v l xs segs h i cw dw a b = search (arith, same-bytes)

-- there are as many data codewords as the symbol has
pub length-data : (v : ℕ) (l : Level) (xs : List ℕ) (segs : List Segment) (h : Option Header) (i : Interpretation) (cw : List ℕ) → IsData v l xs segs h i cw → length cw ≡ data_codewords_of v l
length-data v l xs segs h i cw d = omega (arith, ap length d.codewords, length-padded (data_codewords_of v l) d.stream d.fits, length-bits_of cw)
