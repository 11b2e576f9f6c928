-- Examples that the standard prints, or that were worked out by hand. Laws whose names end in `compute` compare them
-- with what the definitions yield.
use Rattle.std.specs.Prelude.{ℕ, List, [], ◌∷◌, ◌++◌, codes}
use Rattle.qr_bits.specs.declared.modes.Mode.{Mode}
use Rattle.qr_bits.specs.declared.modes.Mode.TheVariants.{Numeric, Alphanumeric, Byte, Kanji}
use Rattle.qr_bits.specs.declared.segmentation.Segment.{Segment}
use Rattle.qr_bits.specs.declared.stream.Header.{Header}
use Rattle.qr_bits.specs.declared.interpretation.EciChange.{EciChange}
use Rattle.qr_bits.specs.declared.interpretation.Item.{Item}
use Rattle.qr_bits.specs.declared.interpretation.Item.TheVariants.{Data, Eci, Fnc1First, Fnc1Second}
use Rattle.qr_bits.specs.declared.fault.ParseFault.{ParseFault}
use Rattle.qr_bits.specs.declared.fault.ParseFault.TheVariants.{BadMode, Cut, BadValue}

-- The modes in the order of their mode indicators (ISO/IEC 18004:2015, 7.4.1, Table 2)
abbrev pub all_modes : List Mode
all_modes = Numeric ∷ Alphanumeric ∷ Byte ∷ Kanji ∷ []

-- A list of one segment, which has `n` bytes in the mode `m` [own]
abbrev pub one : Mode → ℕ → List Segment
one m n = record { mode = m; len = n } ∷ []

-- The data codewords of `01234567` in version 1-M [own]
abbrev pub eight_digits : List ℕ
eight_digits = 0x10 ∷ 0x20 ∷ 0x0C ∷ 0x56 ∷ 0x61 ∷ 0x80 ∷ 0xEC ∷ 0x11 ∷ 0xEC ∷ 0x11 ∷ 0xEC ∷ 0x11 ∷ 0xEC ∷ 0x11 ∷ 0xEC ∷ 0x11 ∷ []

-- The data codewords of `HELLO WORLD` in version 1-M [own]
abbrev pub eleven_characters : List ℕ
eleven_characters = 0x20 ∷ 0x5B ∷ 0x0B ∷ 0x78 ∷ 0xD1 ∷ 0x72 ∷ 0xDC ∷ 0x4D ∷ 0x43 ∷ 0x40 ∷ 0xEC ∷ 0x11 ∷ 0xEC ∷ 0x11 ∷ 0xEC ∷ 0x11 ∷ []

-- The two kanji characters that the standard encodes as examples (ISO/IEC 18004:2015, 7.4.6)
abbrev pub two_kanji : List ℕ
two_kanji = 0x93 ∷ 0x5F ∷ 0xE4 ∷ 0xAA ∷ []

-- The data codewords in version 1-H of the two kanji characters that the standard encodes, with three pad codewords at
-- the end [own]
abbrev pub two_kanji_data : List ℕ
two_kanji_data = 0x80 ∷ 0x26 ∷ 0xCF ∷ 0xEA ∷ 0xA8 ∷ 0x00 ∷ 0xEC ∷ 0x11 ∷ 0xEC ∷ []

-- The header of the second of three symbols. Positions are counted from 0 [own]
abbrev pub middle : Header
middle = record { position = 1; last = 2; parity = 0x48 }

-- The data codewords in version 1-H of `FGH` in byte mode, after the header of the second of three symbols [own]
abbrev pub middle_data : List ℕ
middle_data = 0x31 ∷ 0x24 ∷ 0x84 ∷ 0x03 ∷ 0x46 ∷ 0x47 ∷ 0x48 ∷ 0x00 ∷ 0xEC ∷ []

-- Codewords of seven symbols with ECI headers or FNC1, each with its items, its ECIs and its bytes. The first symbol has
-- Greek letters after ECI 9, as in an example of the standard. The second symbol has `A` and `B` among three ECI
-- headers, whose designators have one, two and three codewords. The third symbol has FNC1 in second position, with the
-- application indicator 37, and `AA12`. The fourth symbol has FNC1 in first position before ECI 3, as other encoders
-- write it. The fifth symbol has FNC1, the characters `A%B%%C`, which are two fields, and then two `%` in byte mode
-- under ECI 26. The sixth symbol has ECI 3 before FNC1 in first position. The seventh symbol has FNC1 in second
-- position, and the characters `A%B`, which are two fields [own]
abbrev pub interpreted : List (List ℕ × List Item × List EciChange × List ℕ)
interpreted = (
  0x70 ∷ 0x94 ∷ 0x05 ∷ 0xA1 ∷ 0xA2 ∷ 0xA3 ∷ 0xA4 ∷ 0xA5 ∷ 0x00 ∷ [],
  Eci (record { number = 9; codewords = 1 }) ∷ Data (record { mode = Byte; len = 5 }) ∷ [],
  record { number = 9; begin = 0 } ∷ [],
  0xA1 ∷ 0xA2 ∷ 0xA3 ∷ 0xA4 ∷ 0xA5 ∷ [],
)
    ∷ (
      0x70 ∷ 0x34 ∷ 0x01 ∷ 0x41 ∷ 0x78 ∷ 0x01 ∷ 0xA4 ∷ 0x01 ∷ 0x42 ∷ 0x7C ∷ 0xF4 ∷ 0x23 ∷ 0xF0 ∷ [],
      Eci (record { number = 3; codewords = 1 }) ∷ Data (record { mode = Byte; len = 1 }) ∷ Eci (record { number = 26; codewords = 2 }) ∷ Data (record { mode = Byte; len = 1 }) ∷ Eci (record { number = 999999; codewords = 3 }) ∷ [],
      record { number = 3; begin = 0 } ∷ record { number = 26; begin = 1 } ∷ record { number = 999999; begin = 2 } ∷ [],
      0x41 ∷ 0x42 ∷ [],
    )
    ∷ (
      0x92 ∷ 0x52 ∷ 0x02 ∷ 0x1C ∷ 0xC0 ∷ 0x5E ∷ 0x00 ∷ [],
      Fnc1Second 37 ∷ Data (record { mode = Alphanumeric; len = 4 }) ∷ [],
      [],
      0x41 ∷ 0x41 ∷ 0x31 ∷ 0x32 ∷ [],
    )
    ∷ (
      0x57 ∷ 0x03 ∷ 0x40 ∷ 0x14 ∷ 0x10 ∷ [],
      Fnc1First ∷ Eci (record { number = 3; codewords = 1 }) ∷ Data (record { mode = Byte; len = 1 }) ∷ [],
      record { number = 3; begin = 0 } ∷ [],
      0x41 ∷ [],
    )
    ∷ (
      0x52 ∷ 0x03 ∷ 0x1E ∷ 0x84 ∷ 0x2B ∷ 0xAE ∷ 0x9C ∷ 0x69 ∷ 0x00 ∷ 0x89 ∷ 0x49 ∷ 0x40 ∷ [],
      Fnc1First ∷ Data (record { mode = Alphanumeric; len = 6 }) ∷ Eci (record { number = 26; codewords = 1 }) ∷ Data (record { mode = Byte; len = 2 }) ∷ [],
      record { number = 26; begin = 5 } ∷ [],
      0x41 ∷ 0x1D ∷ 0x42 ∷ 0x25 ∷ 0x43 ∷ 0x25 ∷ 0x25 ∷ [],
    )
    ∷ (
      0x70 ∷ 0x35 ∷ 0x40 ∷ 0x14 ∷ 0x10 ∷ [],
      Eci (record { number = 3; codewords = 1 }) ∷ Fnc1First ∷ Data (record { mode = Byte; len = 1 }) ∷ [],
      record { number = 3; begin = 0 } ∷ [],
      0x41 ∷ [],
    )
    ∷ (
      0x92 ∷ 0x52 ∷ 0x01 ∷ 0x9E ∷ 0x82 ∷ 0xC0 ∷ [],
      Fnc1Second 37 ∷ Data (record { mode = Alphanumeric; len = 3 }) ∷ [],
      [],
      0x41 ∷ 0x1D ∷ 0x42 ∷ [],
    ) ∷ []

-- Lists of codewords that cannot be read in version 1, each with its fault. The first six have a number that is too
-- large: 1000 for three digits, 100 for two digits, 10 for one digit, 2025 for two characters, 45 for one character,
-- and hexadecimal BD in kanji mode. The next three lists end within the data, within the character count indicator, and
-- within the header. The tenth list has a mode indicator that is not defined, and the eleventh has a second header. The
-- last five lists have, in turn, only four bits of a designator, a designator that begins with the bits 111, the ECI
-- number 1000000, the application indicator 100, and FNC1 after a segment [own]
abbrev pub unreadable : List (List ℕ × ParseFault)
unreadable =
    (0x10 ∷ 0x0F ∷ 0xE8 ∷ [], BadValue)
    ∷ (0x10 ∷ 0x0B ∷ 0x20 ∷ [], BadValue)
    ∷ (0x10 ∷ 0x06 ∷ 0x80 ∷ [], BadValue)
    ∷ (0x20 ∷ 0x17 ∷ 0xE9 ∷ [], BadValue)
    ∷ (0x20 ∷ 0x0D ∷ 0xA0 ∷ [], BadValue)
    ∷ (0x80 ∷ 0x10 ∷ 0x5E ∷ 0x80 ∷ [], BadValue)
    ∷ (0x40 ∷ 0x20 ∷ 0x41 ∷ [], Cut)
    ∷ (0x10 ∷ [], Cut)
    ∷ (0x30 ∷ [], Cut)
    ∷ (0x60 ∷ [], BadMode)
    ∷ (0x30 ∷ 0x10 ∷ 0x83 ∷ [], BadMode)
    ∷ (0x78 ∷ [], Cut)
    ∷ (0x7E ∷ 0x00 ∷ [], BadValue)
    ∷ (0x7C ∷ 0xF4 ∷ 0x24 ∷ 0x00 ∷ [], BadValue)
    ∷ (0x96 ∷ 0x40 ∷ [], BadValue)
    ∷ (0x40 ∷ 0x15 ∷ 0x55 ∷ [], BadMode) ∷ []

-- Three fields of GS1 data, the modes of their bytes, and the segments that are written for them: the first field is in
-- numeric and in alphanumeric mode, the second in alphanumeric mode, and the third in byte mode [own]
abbrev pub three_fields : List ℕ
three_fields = codes "12A%B" ++ 0x1D ∷ codes "3C" ++ 0x1D ∷ codes "d%"

abbrev pub modes_of_fields : List Mode
modes_of_fields = Numeric ∷ Numeric ∷ Alphanumeric ∷ Alphanumeric ∷ Alphanumeric ∷ Alphanumeric ∷ Alphanumeric ∷ Alphanumeric ∷ Byte ∷ Byte ∷ Byte ∷ []

abbrev pub segments_of_fields : List Segment
segments_of_fields = record { mode = Numeric; len = 2 } ∷ record { mode = Alphanumeric; len = 7 } ∷ record { mode = Byte; len = 3 } ∷ []
