-- The laws of this crate: what follows from its definitions. Each law is a contract of a function of `laws.rt`.
use Rattle.std.specs.Prelude.{◌≡◌, ℕ, ◌+◌, ◌*◌, ◌<◌, ◌≤◌, ◌↔◌, Bool, true, false, List, ◌++◌, length, All, Option, Ok}
use Rattle.std.specs.List.{slice_index_or}
use Rattle.qr_layout.specs.declared.level.Level.{Level}
use Rattle.qr_layout.specs.Blocks.{data_codewords_of}
use Rattle.qr_bits.specs.declared.modes.Mode.TheVariants.{Kanji}
use Rattle.qr_bits.specs.declared.modes.Rule.{Rule}
use Rattle.qr_bits.specs.declared.segmentation.Segment.{Segment}
use Rattle.qr_bits.specs.declared.stream.Header.{Header}
use Rattle.qr_bits.specs.Bits.{bits_of, codeword_bit}
use Rattle.qr_bits.specs.Segmentation.{bits, Covers, IsLeastSegmentation, HasFit}
use Rattle.qr_bits.specs.Modes.{may_use}
use Rattle.qr_bits.specs.Stream.{AreItems, items_stream, CountsFit, IsStream, Suits}
use Rattle.qr_bits.specs.Padding.{capacity_of, IsData}
use Rattle.qr_bits.specs.Header.{header_bits, header_stream, HeaderFits}
use Rattle.qr_bits.specs.Interpretation.{are_fields, ecis_in, escaped, fnc1_in, fnc1_of, separated, interpretation_bits, items_in, MayWrite}
use Rattle.qr_bits.specs.declared.interpretation.Interpretation.{Interpretation}
use Rattle.qr_bits.specs.declared.interpretation.Interpretation.TheVariants.{Default}
use Rattle.qr_bits.specs.Parsing.{Content, content_of, ends, items_of, parse, plain_content}
use Rattle.qr_bits.specs.declared.interpretation.Item.{Item}

-- Parsing bits yields an optional header and segments, and no other items, exactly if the bits are the bit stream of
-- this header and these segments, followed by an end: at most three bits, or the terminator and any bits after it
-- (ISO/IEC 18004:2015, 7.4.1, 7.4.9, 8.1)
abbrev pub StreamsAreParsed : Type 0
StreamsAreParsed =
    (v : ℕ) (bits : List Bool) (h : Option Header) (segs : List Segment) (xs : List ℕ) →
    (parse v bits ≡ Ok (plain_content h segs xs)) ↔
    ((front : List Bool) × (tail : List Bool) × IsStream v xs segs h Default front × (bits ≡ front ++ tail) × (ends tail ≡ true))

-- Data codewords are read as the content that they were made from: the header, the interpretation, the segments, and
-- the bytes that the characters of the segments stand for [own]
abbrev pub DataAreParsed : Type 0
DataAreParsed =
    (v : ℕ) (l : Level) (xs : List ℕ) (segs : List Segment) (h : Option Header) (i : Interpretation) (cw : List ℕ) → IsData v l xs segs h i cw →
    parse v (bits_of cw) ≡ Ok (content_of h (items_in i segs) xs)

-- Data codewords that have neither an ECI header nor FNC1 are read as the header, segments and bytes that they were
-- made from [own]
abbrev pub PlainDataAreParsed : Type 0
PlainDataAreParsed =
    (v : ℕ) (l : Level) (xs : List ℕ) (segs : List Segment) (h : Option Header) (cw : List ℕ) → IsData v l xs segs h Default cw →
    parse v (bits_of cw) ≡ Ok (plain_content h segs xs)

-- A bit stream has as many bits as its header, the ECI header or FNC1 of its interpretation, and its segments together
-- [own]
abbrev pub StreamsHaveTheirBits : Type 0
StreamsHaveTheirBits =
    (v : ℕ) (xs : List ℕ) (segs : List Segment) (h : Option Header) (i : Interpretation) (stream : List Bool) → IsStream v xs segs h i stream →
    length stream ≡ header_bits h + interpretation_bits i + bits v segs

-- If a bit stream is not longer than the capacity of a symbol, there is a list of data codewords that contains this bit
-- stream [own]
abbrev pub DataAreThere : Type 0
DataAreThere =
    (v : ℕ) (l : Level) (xs : List ℕ) (segs : List Segment) (h : Option Header) (i : Interpretation) (stream : List Bool) → IsStream v xs segs h i stream →
    length stream ≤ capacity_of v l → (cw : List ℕ) × IsData v l xs segs h i cw

-- For a given version, level, interpretation, optional header, and segments of given bytes, there is at most one list
-- of data codewords [own]
abbrev pub DataAreOne : Type 0
DataAreOne =
    (v : ℕ) (l : Level) (xs : List ℕ) (segs : List Segment) (h : Option Header) (i : Interpretation) (cw dw : List ℕ) →
    IsData v l xs segs h i cw → IsData v l xs segs h i dw → cw ≡ dw

-- There are as many data codewords as the standard requires for the version and the level (ISO/IEC 18004:2015, 7.4.10)
abbrev pub DataFillTheSymbol : Type 0
DataFillTheSymbol =
    (v : ℕ) (l : Level) (xs : List ℕ) (segs : List Segment) (h : Option Header) (i : Interpretation) (cw : List ℕ) → IsData v l xs segs h i cw →
    length cw ≡ data_codewords_of v l

-- If the modes of segments suit their bytes, and the bits of all segments fit the capacity, the number of characters of
-- each segment fits its character count indicator [own]
abbrev pub CountsFitWhereBitsFit : Type 0
CountsFitWhereBitsFit =
    (v : ℕ) (l : Level) (xs : List ℕ) (segs : List Segment) → 1 ≤ v → v ≤ 40 → Suits xs segs →
    bits v segs ≤ capacity_of v l → CountsFit v segs

-- An input that fits a symbol has at most 7,089 bytes [own]
abbrev pub FittingInputsAreShort : Type 0
FittingInputsAreShort =
    (i : Interpretation) (v : ℕ) (l : Level) (r : Rule) (xs : List ℕ) → 1 ≤ v → v ≤ 40 → HasFit i v r xs (capacity_of v l) → length xs ≤ 7089

-- Let `segs` be the segments of fewest bits of an input. They cover the characters that are written for the input. The
-- segments take at most n bits exactly if some valid assignment takes at most n bits [own]
abbrev pub LeastSegmentationsFit : Type 0
LeastSegmentationsFit =
    (i : Interpretation) (v : ℕ) (r : Rule) (xs ys : List ℕ) (segs : List Segment) → IsLeastSegmentation i v r xs ys segs →
    Covers ys segs × ((n : ℕ) → HasFit i v r xs n ↔ (bits v segs ≤ n))

-- If an input can be written with an interpretation, what is written for it is read as this input and this
-- interpretation. What is written is the ECI header or FNC1 of the interpretation, and then the segments of fewest bits
-- with their characters (ISO/IEC 18004:2015, 7.4.2, 7.4.8.2)
abbrev pub SegmentationsMeanTheirInput : Type 0
SegmentationsMeanTheirInput =
    (i : Interpretation) (v : ℕ) (r : Rule) (xs ys : List ℕ) (segs : List Segment) (h : Option Header) → MayWrite i xs → IsLeastSegmentation i v r xs ys segs →
    (content_of h (items_in i segs) ys ≡ record { header = h; items = items_in i segs; ecis = ecis_in i; bytes = xs })
    × (fnc1_of (items_in i segs) ≡ fnc1_in i)

-- Under a rule without kanji mode, a piece of an input takes no more bits than the whole input, if each of them is
-- written with as few bits as possible [own]
abbrev pub PiecesNeedNoMore : Type 0
PiecesNeedNoMore =
    (i : Interpretation) (v : ℕ) (r : Rule) (xs ys zs : List ℕ) (n : ℕ) → may_use r Kanji ≡ false →
    HasFit i v r (xs ++ (ys ++ zs)) n → HasFit i v r ys n

-- Bit `k` of the codewords, which `codeword_bit` computes, is the bit with the index `k` in the list of all bits of the
-- codewords, where `k` is counted from 0 (ISO/IEC 18004:2015, 7.7.3)
abbrev pub BitsAreCodewordBits : Type 0
BitsAreCodewordBits =
    (cw : List ℕ) (k : ℕ) → k < 8 * length cw → slice_index_or (bits_of cw) k false ≡ codeword_bit cw k

-- The characters that alphanumeric mode writes after FNC1 for fields of GS1 data are read as these fields (ISO/IEC
-- 18004:2015, 7.4.8.2)
abbrev pub FieldsAreRead : Type 0
FieldsAreRead = (xs : List ℕ) → are_fields xs ≡ true → separated (escaped xs) ≡ xs

-- Parsing bits yields items exactly if the bits are those of these items, in an order that the standard allows,
-- followed by an end: at most three bits, or the terminator and any bits after it (ISO/IEC 18004:2015, 7.4.1, 7.4.2,
-- 7.4.8, 7.4.9)
abbrev pub ItemsAreParsed : Type 0
ItemsAreParsed = (v : ℕ) (bits : List Bool) (items : List Item) (xs : List ℕ) →
    (items_of v true bits ≡ Ok (items, xs)) ↔
    ((tail : List Bool) × All (λ b. b < 256) xs × AreItems v true xs items × (bits ≡ items_stream v xs items ++ tail) × (ends tail ≡ true))

-- Parsing bits yields a content exactly if the bits are those of its header, if it has one, and of items in an order
-- that the standard allows, followed by an end: at most three bits, or the terminator and any bits after it. The
-- content has these items, the bytes that the characters of their segments stand for, and their ECI headers (ISO/IEC
-- 18004:2015, 7.4.1, 7.4.2, 7.4.8, 7.4.9, 8.1)
abbrev pub ContentsAreParsed : Type 0
ContentsAreParsed = (v : ℕ) (bits : List Bool) (c : Content) →
    (parse v bits ≡ Ok c) ↔
    ((items : List Item) × (xs : List ℕ) × (tail : List Bool) × HeaderFits c.header × All (λ b. b < 256) xs × AreItems v true xs items
    × (bits ≡ header_stream c.header ++ (items_stream v xs items ++ tail)) × (ends tail ≡ true) × (c ≡ content_of c.header items xs))

-- The content that is parsed from the data codewords of a symbol has at most 7,089 bytes and at most 1,970 ECI headers
-- [own]
abbrev pub ContentsAreShort : Type 0
ContentsAreShort =
    (v : ℕ) (l : Level) (cw : List ℕ) (c : Content) → 1 ≤ v → v ≤ 40 → length cw ≡ data_codewords_of v l → parse v (bits_of cw) ≡ Ok c →
    (length c.bytes ≤ 7089) × (length c.ecis ≤ 1970)
