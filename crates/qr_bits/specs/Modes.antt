-- The four modes: their indicators, which bytes each mode can write, and how many bits these bytes take.
use Rattle.std.specs.Prelude.{ℕ, ◌+◌, ◌*◌, ◌/◌, ◌%◌, Bool, true, false, ◌&&◌, ◌||◌, if◌then◌else◌, nat_le, ◌==◌, List, [], ◌∷◌, codes, ◌-◌}
use Rattle.std.specs.List.{list_all, list_any, position_or_len}
use Rattle.qr_bits.specs.declared.modes.Mode.{Mode}
use Rattle.qr_bits.specs.declared.modes.Mode.TheVariants.{Numeric, Alphanumeric, Byte, Kanji}
use Rattle.qr_bits.specs.declared.modes.Rule.{Rule}
use Rattle.qr_bits.specs.declared.modes.Rule.TheVariants.{Auto, BytesOnly, WithKanji}

-- The mode indicator, which is the first four bits of a segment, as a number (ISO/IEC 18004:2015, 7.4.1, Table 2)
abbrev pub indicator : Mode → ℕ
indicator Numeric = 1
indicator Alphanumeric = 2
indicator Byte = 4
indicator Kanji = 8

-- The terminator, as a number. Its four bits, or as many of them as there is room for, come in the place of the next
-- mode indicator if no item follows (ISO/IEC 18004:2015, 7.4.1, Table 2)
abbrev pub terminator : ℕ
terminator = 0

-- How many bits the character count indicator of the given mode has in version `v` (ISO/IEC 18004:2015, 7.4.1, Table 3)
abbrev pub count_width : ℕ → Mode → ℕ
count_width v Numeric = if nat_le v 9 then 10 else (if nat_le v 26 then 12 else 14)
count_width v Alphanumeric = if nat_le v 9 then 9 else (if nat_le v 26 then 11 else 13)
count_width v Byte = if nat_le v 9 then 8 else 16
count_width v Kanji = if nat_le v 9 then 8 else (if nat_le v 26 then 10 else 12)

-- The number in the character count indicator of a segment of `n` bytes: kanji mode counts two bytes as one character,
-- and any other mode counts each byte as one (ISO/IEC 18004:2015, 7.4.1)
abbrev pub character_count : Mode → ℕ → ℕ
character_count Kanji n = n / 2
character_count _ n = n

-- The number of bytes of a segment whose character count indicator contains the number `n`: twice `n` in kanji mode,
-- and otherwise `n` (ISO/IEC 18004:2015, 7.4.1)
abbrev pub byte_count : Mode → ℕ → ℕ
byte_count Kanji n = 2 * n
byte_count _ n = n

-- The byte is an ASCII digit (ISO/IEC 18004:2015, 7.3.3)
abbrev pub is_digit : ℕ → Bool
is_digit b = nat_le 48 b && nat_le b 57

-- The 45 characters of alphanumeric mode, in the order of their values (ISO/IEC 18004:2015, 7.4.4, Table 5)
unfoldable pub characters : List ℕ
characters = codes "0123456789ABCDEFGHIJKLMNOPQRSTUVWXYZ $%*+-./:"

-- The byte is one of the 45 characters of alphanumeric mode (ISO/IEC 18004:2015, 7.3.4)
unfoldable pub is_alphanumeric : ℕ → Bool
is_alphanumeric b = list_any (λ c. c == b) characters

-- The value of a character of alphanumeric mode, which is its index in Table 5 (ISO/IEC 18004:2015, 7.4.4, Table 5)
unfoldable pub character_value : ℕ → ℕ
character_value b = position_or_len (λ c. c == b) characters

-- The two bytes are a kanji pair: as a number of 16 bits they are from 8140 to 9FFC or from E040 to EBBF, and the
-- second byte is from 40 to FC, all hexadecimal. This project accepts 7F as the second byte too, although no character
-- has it there (ISO/IEC 18004:2015, 7.3.6, 7.4.6)
unfoldable pub is_kanji_pair : ℕ → ℕ → Bool
is_kanji_pair high low =
    let pair = 256 * high + low in
    (nat_le 0x8140 pair && nat_le pair 0x9FFC || nat_le 0xE040 pair && nat_le pair 0xEBBF) && (nat_le 0x40 low && nat_le low 0xFC)

-- The number of bytes is even. If the bytes are taken two by two from the left, each two pass `test` [own]
abbrev pub in_twos : (ℕ → ℕ → Bool) → List ℕ → Bool
in_twos test [] = true
in_twos test (x ∷ []) = false
in_twos test (x ∷ y ∷ xs) = test x y && in_twos test xs

-- The 13 bits that are written for a kanji pair, as a number. If the pair, taken as 16 bits, is at most 9FFC, 8140 is
-- subtracted from it, and otherwise C140. Then the high byte of the difference is multiplied by C0, and the low byte is
-- added. All these numbers are hexadecimal (ISO/IEC 18004:2015, 7.4.6)
unfoldable pub kanji_value : ℕ → ℕ → ℕ
kanji_value high low =
    let pair = 256 * high + low in
    let rest = if nat_le pair 0x9FFC then pair - 0x8140 else pair - 0xC140 in
    0xC0 * (rest / 256) + rest % 256

-- The mode can write the bytes: they are characters of this mode, each of two bytes in kanji mode and otherwise of one
-- (ISO/IEC 18004:2015, 7.3.3 to 7.3.6)
abbrev pub suits : Mode → List ℕ → Bool
suits Numeric xs = list_all is_digit xs
suits Alphanumeric xs = list_all is_alphanumeric xs
suits Byte xs = true
suits Kanji xs = in_twos is_kanji_pair xs

-- How many bits the data of `n` bytes take. Numeric mode takes 10 bits for each group of three digits, and 7 bits for
-- two digits or 4 bits for one digit at the end. Alphanumeric mode takes 11 bits for each two characters, and 6 bits
-- for a single one at the end. Byte mode takes 8 bits for a byte, and kanji mode 13 bits for a kanji pair. No segment
-- of a valid assignment has an odd `n` in kanji mode; for such an `n` the last byte counts as a whole pair (ISO/IEC
-- 18004:2015, 7.4.3 to 7.4.6)
abbrev pub payload_bits : Mode → ℕ → ℕ
payload_bits Numeric n = 10 * (n / 3) + (if n % 3 == 0 then 0 else (if n % 3 == 1 then 4 else 7))
payload_bits Alphanumeric n = 11 * (n / 2) + 6 * (n % 2)
payload_bits Byte n = 8 * n
payload_bits Kanji n = 13 * ((n + 1) / 2)

-- The rule allows the mode: every rule allows byte mode, all but `BytesOnly` allow numeric and alphanumeric mode, and
-- only `WithKanji` allows kanji mode [own]
abbrev pub may_use : Rule → Mode → Bool
may_use Auto Kanji = false
may_use Auto _ = true
may_use BytesOnly Byte = true
may_use BytesOnly _ = false
may_use WithKanji _ = true
