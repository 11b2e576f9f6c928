-- How the bits of data codewords are read: first the header, if there is one, and then the items, with the characters
-- of the segments among them. If they cannot be read, the result is a fault. `bits` are the bits that have not been
-- read yet. If a definition yields a tuple that ends with a list of bits, this list has the bits that are still to be
-- read.
use Rattle.std.specs.Prelude.{◌≡◌, ◌⊎◌, ℕ, zero, suc, ◌+◌, ◌-◌, ◌*◌, ◌/◌, ◌%◌, Bool, ◌&&◌, ◌||◌, ◌==◌, nat_lt, nat_le, true, false, if◌then◌else◌, List, [], ◌∷◌, ◌++◌, length, take, drop, Result, Ok, Err, Option, Some, None}
use Rattle.std.specs.List.{slice_index_or}
use Rattle.qr_bits.specs.declared.modes.Mode.{Mode}
use Rattle.qr_bits.specs.declared.modes.Mode.TheVariants.{Numeric, Alphanumeric, Byte, Kanji}
use Rattle.qr_bits.specs.declared.segmentation.Segment.{Segment}
use Rattle.qr_bits.specs.declared.stream.Header.{Header}
use Rattle.qr_bits.specs.declared.interpretation.Designator.{Designator}
use Rattle.qr_bits.specs.declared.interpretation.EciChange.{EciChange}
use Rattle.qr_bits.specs.declared.interpretation.Item.{Item}
use Rattle.qr_bits.specs.declared.interpretation.Item.TheVariants.{Data, Eci, Fnc1First, Fnc1Second}
use Rattle.qr_bits.specs.Interpretation.{eci_changes, eci_indicator, fnc1_first_indicator, fnc1_second_indicator, is_application_indicator, may_follow, meant_bytes, plain}
use Rattle.qr_bits.specs.declared.fault.ParseFault.{ParseFault}
use Rattle.qr_bits.specs.declared.fault.ParseFault.TheVariants.{Memory, BadMode, Cut, BadValue}
use Rattle.qr_bits.specs.Bits.{value}
use Rattle.qr_bits.specs.Modes.{characters, count_width, indicator, byte_count, payload_bits, terminator}
use Rattle.qr_bits.specs.Header.{header_indicator}

infixl 10 ◌>>=◌
-- Applies `f` to the value of the first result. If the first result is a fault, the result is this fault [own]
abbrev pub ◌>>=◌ : {A B : Type 0} → Result A ParseFault → (A → Result B ParseFault) → Result B ParseFault
(Ok x) >>= f = f x
(Err e) >>= f = Err e

-- The result `r` of the code is the result `read` of a definition, or it is the fault `Memory`, since an allocation was
-- refused [own]
abbrev pub IsResultOf : {A : Type 0} → Result A ParseFault → Result A ParseFault → Type 0
IsResultOf r read = (r ≡ Err Memory) ⊎ (read ≡ r)

-- The last decimal digit of `n`, in ASCII (ISO/IEC 18004:2015, 7.4.3)
abbrev pub digit : ℕ → ℕ
digit n = 48 + n % 10

-- The `n` digits that the bits begin with. Each group of three digits is read from 10 bits. Two digits that are left at
-- the end are read from 7 bits, and a single one from 4. If a number is too large for its digits, the fault is
-- `BadValue` (ISO/IEC 18004:2015, 7.4.3)
unfoldable pub digits_of : ℕ → List Bool → Result (List ℕ) ParseFault
digits_of zero bits = Ok []
digits_of (suc zero) bits =
    let group = value (take 4 bits) in
    if nat_lt group 10 then Ok (digit group ∷ []) else Err BadValue
digits_of (suc (suc zero)) bits =
    let group = value (take 7 bits) in
    if nat_lt group 100 then Ok (digit (group / 10) ∷ digit group ∷ []) else Err BadValue
digits_of (suc (suc (suc n))) bits =
    let group = value (take 10 bits) in
    if nat_lt group 1000 then (digits_of n (drop 10 bits) >>= λ ds. Ok (digit (group / 100) ∷ digit (group / 10) ∷ digit group ∷ ds)) else Err BadValue

-- The character of alphanumeric mode that has the value `n` (ISO/IEC 18004:2015, 7.4.4, Table 5)
unfoldable pub character : ℕ → ℕ
character n = slice_index_or characters n 0

-- The `n` characters of alphanumeric mode that the bits begin with. Each pair of characters is read from 11 bits, and a
-- single one at the end from 6. If the number for a pair is 2025 or more, or that for a single one is 45 or more, the
-- fault is `BadValue` (ISO/IEC 18004:2015, 7.4.4)
unfoldable pub characters_of : ℕ → List Bool → Result (List ℕ) ParseFault
characters_of zero bits = Ok []
characters_of (suc zero) bits =
    let single = value (take 6 bits) in
    if nat_lt single 45 then Ok (character single ∷ []) else Err BadValue
characters_of (suc (suc n)) bits =
    let pair = value (take 11 bits) in
    if nat_lt pair 2025 then (characters_of n (drop 11 bits) >>= λ cs. Ok (character (pair / 45) ∷ character (pair % 45) ∷ cs)) else Err BadValue

-- The `n` bytes that the bits begin with, of 8 bits each (ISO/IEC 18004:2015, 7.4.5)
unfoldable pub bytes_of : ℕ → List Bool → List ℕ
bytes_of zero bits = []
bytes_of (suc n) bits = value (take 8 bits) ∷ bytes_of n (drop 8 bits)

-- The kanji pair that has the value `n` in kanji mode, as a number of 16 bits. First the value is divided by C0: the
-- quotient becomes the high byte of a number, and the remainder the low byte. Then 8140 is added if the high byte is at
-- most 1E, and otherwise C140. All these numbers are hexadecimal (ISO/IEC 18004:2015, 7.4.6)
unfoldable pub kanji_pair : ℕ → ℕ
kanji_pair n =
    let rest = 256 * (n / 0xC0) + n % 0xC0 in
    if nat_le (n / 0xC0) 0x1E then rest + 0x8140 else rest + 0xC140

-- The bytes of the `n` kanji pairs that the bits begin with, each of which is read from 13 bits. If division of a value
-- by C0 leaves a remainder of more than BC, both hexadecimal, the fault is `BadValue` (ISO/IEC 18004:2015, 7.4.6)
unfoldable pub pairs_of : ℕ → List Bool → Result (List ℕ) ParseFault
pairs_of zero bits = Ok []
pairs_of (suc n) bits =
    let group = value (take 13 bits) in
    let pair = kanji_pair group in
    if nat_le (group % 0xC0) 0xBC then (pairs_of n (drop 13 bits) >>= λ xs. Ok (pair / 256 ∷ pair % 256 ∷ xs)) else Err BadValue

-- The bytes that are read from the data of a segment with the given mode and `n` characters (ISO/IEC 18004:2015, 7.4.3
-- to 7.4.6)
unfoldable pub values_of : Mode → ℕ → List Bool → Result (List ℕ) ParseFault
values_of Numeric n bits = digits_of n bits
values_of Alphanumeric n bits = characters_of n bits
values_of Byte n bits = Ok (bytes_of n bits)
values_of Kanji n bits = pairs_of n bits

-- The mode that has the indicator `n`, or the fault `BadMode` if there is no such mode (ISO/IEC 18004:2015, 7.4.1,
-- Table 2)
unfoldable pub mode_of : ℕ → Result Mode ParseFault
mode_of n =
    if n == indicator Numeric then Ok Numeric else
    (if n == indicator Alphanumeric then Ok Alphanumeric else
    (if n == indicator Byte then Ok Byte else
    (if n == indicator Kanji then Ok Kanji else Err BadMode)))

-- Nothing more is to be read: there are fewer than four bits, or the terminator comes next (ISO/IEC 18004:2015, 7.4.9)
unfoldable pub ends : List Bool → Bool
ends bits = nat_lt (length bits) 4 || value (take 4 bits) == terminator

-- The first `w` bits as a number, or the fault `Cut` if there are fewer bits (ISO/IEC 18004:2015, 7.4.1)
unfoldable pub leading_number : ℕ → List Bool → Result (ℕ × List Bool) ParseFault
leading_number w bits = if nat_lt (length bits) w then Err Cut else Ok (value (take w bits), drop w bits)

-- The bytes of a segment with the mode `m` and `n` characters, read from its data. If the data are not complete, the
-- fault is `Cut`, even if a value among them is wrong (ISO/IEC 18004:2015, 7.4.3 to 7.4.6)
unfoldable pub payload_at : Mode → ℕ → List Bool → Result (List ℕ × List Bool) ParseFault
payload_at m n bits =
    if nat_lt (length bits) (payload_bits m (byte_count m n)) then Err Cut else (values_of m n bits >>= λ xs. Ok (xs, drop (payload_bits m (byte_count m n)) bits))

-- The segment that is read next, and its characters. Its mode indicator is read first, then the character count
-- indicator, and then the data (ISO/IEC 18004:2015, 7.4.1)
unfoldable pub segment_at : ℕ → List Bool → Result (Segment × List ℕ × List Bool) ParseFault
segment_at v bits =
    mode_of (value (take 4 bits)) >>= λ m.
    leading_number (count_width v m) (drop 4 bits) >>= λ n.
    payload_at m n.0 n.1 >>= λ p.
    Ok (record { mode = m; len = byte_count m n.0 }, p.0, p.1)

-- The ECI designator that is read next. Its number has 7 bits after the bit 0, 14 bits after the bits 10, and 21 bits
-- after the bits 110. The fault is `BadValue` if the designator begins with the bits 111, or if the number has more
-- than six digits (ISO/IEC 18004:2015, 7.4.2, Table 4)
unfoldable pub designator_at : List Bool → Result (Designator × List Bool) ParseFault
designator_at bits =
    leading_number 8 bits >>= λ a.
    if nat_lt a.0 128 then Ok (record { number = a.0; codewords = 1 }, a.1) else
    (if nat_lt a.0 192 then (leading_number 8 a.1 >>= λ b. Ok (record { number = 256 * (a.0 - 128) + b.0; codewords = 2 }, b.1)) else
    (if nat_le 224 a.0 then Err BadValue else
    (leading_number 16 a.1 >>= λ b.
    let number = 65536 * (a.0 - 192) + b.0 in
    if nat_lt number 1000000 then Ok (record { number = number; codewords = 3 }, b.1) else Err BadValue)))

-- The application indicator that is read from the next 8 bits, or the fault `BadValue` if these bits are no such
-- indicator (ISO/IEC 18004:2015, 7.4.8.3)
unfoldable pub application_at : List Bool → Result (ℕ × List Bool) ParseFault
application_at bits = leading_number 8 bits >>= λ a. if is_application_indicator a.0 then Ok a else Err BadValue

-- The item that is read next, and its characters if it is a segment. `may` says whether FNC1 may come here (ISO/IEC
-- 18004:2015, 7.4.2, 7.4.8)
unfoldable pub item_at : ℕ → Bool → List Bool → Result (Item × List ℕ × List Bool) ParseFault
item_at v may bits =
    let indicator = value (take 4 bits) in
    if indicator == eci_indicator then (designator_at (drop 4 bits) >>= λ d. Ok (Eci d.0, [], d.1)) else
    (if may && indicator == fnc1_first_indicator then Ok (Fnc1First, [], drop 4 bits) else
    (if may && indicator == fnc1_second_indicator then (application_at (drop 4 bits) >>= λ a. Ok (Fnc1Second a.0, [], a.1)) else
    (segment_at v bits >>= λ s. Ok (Data s.0, s.1, s.2))))

-- The items up to the end, but not more than `n`, with the characters of their segments. `may` says whether FNC1 may
-- come first. `n` only makes the recursion end [own]
unfoldable pub items_at : ℕ → ℕ → Bool → List Bool → Result (List Item × List ℕ) ParseFault
items_at zero v may bits = Ok ([], [])
items_at (suc n) v may bits =
    if ends bits then Ok ([], []) else (item_at v may bits >>= λ i. items_at n v (may_follow may i.0) i.2 >>= λ r. Ok (i.0 ∷ r.0, i.1 ++ r.1))

-- All items up to the end, with the characters of their segments. `may` says whether FNC1 may come first. The limit
-- that is passed to `items_at` is the number of bits: there are never more items than bits, because each item takes at
-- least four bits (ISO/IEC 18004:2015, 7.4.1, 7.4.9)
unfoldable pub items_of : ℕ → Bool → List Bool → Result (List Item × List ℕ) ParseFault
items_of v may bits = items_at (length bits) v may bits

-- The bits begin with the mode indicator of structured append (ISO/IEC 18004:2015, 8.1)
unfoldable pub begins_header : List Bool → Bool
begins_header bits = nat_le 4 (length bits) && value (take 4 bits) == header_indicator

-- The header whose mode indicator was already read. If fewer than 16 bits remain for its numbers, the fault is `Cut`
-- (ISO/IEC 18004:2015, 8.1 to 8.3)
unfoldable pub header_at : List Bool → Result (Header × List Bool) ParseFault
header_at bits =
    if nat_lt (length bits) 16 then Err Cut
    else Ok (record { position = value (take 4 bits); last = value (take 4 (drop 4 bits)); parity = value (take 8 (drop 8 bits)) }, drop 16 bits)

-- The header if the bits begin with its mode indicator, and otherwise `None` (ISO/IEC 18004:2015, 8.1)
unfoldable pub first_header : List Bool → Result (Option Header × List Bool) ParseFault
first_header bits = if begins_header bits then (header_at (drop 4 bits) >>= λ h. Ok (Some h.0, h.1)) else Ok (None, bits)

-- The content that is read from data codewords: a header if there is one, the items, the ECI headers with the numbers
-- of bytes before them, and the bytes [own]
pub record Content : Type 0 where
  pub header : Option Header
  pub items : List Item
  pub ecis : List EciChange
  pub bytes : List ℕ

-- The content that has the header `h` and the items `items`, where `cs` are the characters of all segments among these
-- items (ISO/IEC 18004:2015, 7.4.2, 7.4.8)
abbrev pub content_of : Option Header → List Item → List ℕ → Content
content_of h items cs =
    record { header = h; items = items; ecis = eci_changes false 0 items cs; bytes = meant_bytes false items cs }

-- The content that has the header `h`, the segments `segs`, neither an ECI header nor FNC1, and the bytes `xs` [own]
abbrev pub plain_content : Option Header → List Segment → List ℕ → Content
plain_content h segs xs = record { header = h; items = plain segs; ecis = []; bytes = xs }

-- The content of data codewords of version `v`, or a fault. A header, if there is one, is read first, and then all
-- items (ISO/IEC 18004:2015, 7.4.1, 8.1, 12)
unfoldable pub parse : ℕ → List Bool → Result Content ParseFault
parse v bits =
    first_header bits >>= λ h.
    items_of v true h.1 >>= λ r.
    Ok (content_of h.0 r.0 r.1)
