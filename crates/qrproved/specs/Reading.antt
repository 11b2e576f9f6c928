-- What `qrproved_read` writes, and when it writes nothing. The square has `side` rows. `modules` begins with a byte for
-- each of its modules, row by row. The byte 0 is a light module, and any other byte a dark one.
use Rattle.std.specs.Prelude.{◌≡◌, ℕ, ◌*◌, ◌<◌, ◌≤◌, List, ◌++◌, drop, length, Option, None, Some}
use Rattle.qr_layout.specs.Version.{side_of}
use Rattle.qr_bits.specs.declared.stream.Header.{Header}
use Rattle.qr_bits.specs.Parsing.{Content}
use Rattle.qr_symbol.specs.declared.fault.ReadFault.{ReadFault}
use Rattle.qr_symbol.specs.Reading.{IsReading, IsUnread}
use Rattle.qrproved.specs.declared.reading.QrprovedContent.{QrprovedContent}
use Rattle.qrproved.specs.declared.interpretation.QrprovedEci.{QrprovedEci}
use Rattle.qrproved.specs.Interpretation.{TellsInterpretation}
use Rattle.qrproved.specs.Modules.{square_of_bytes}

-- There is a version whose symbols have `side` rows (ISO/IEC 18004:2015, 6.3.2)
abbrev pub IsSide : ℕ → Type 0
IsSide side = (v : ℕ) × (1 ≤ v) × (v ≤ 40) × (side ≡ side_of v)

-- Four numbers report the structured append header. If there is a header, `has_header` is 1, and the other three are
-- the numbers that the header contains. If there is none, all four are 0 (ISO/IEC 18004:2015, 8.1 to 8.3)
abbrev pub TellsHeader : Option Header → (has_header position last parity : ℕ) → Type 0
TellsHeader None has_header position last parity = (has_header ≡ 0) × (position ≡ 0) × (last ≡ 0) × (parity ≡ 0)
TellsHeader (Some h) has_header position last parity = (has_header ≡ 1) × (position ≡ h.position) × (last ≡ h.last) × (parity ≡ h.parity)

-- The square is read, which yields `content`. After the call one buffer begins with the bytes of the content, and the
-- other with its ECI headers, or with as many of these as the buffer has room for. `c` has the number of the bytes and
-- of all headers. It also has the version, the structured append header, FNC1, and whether there are kanji [own]
pub record IsGiven (modules : List ℕ) (side : ℕ) (before after : List ℕ) (ecis_before ecis_after : List QrprovedEci) (c : QrprovedContent) : Type 0 where
  pub whole : side * side ≤ length modules
  pub content : Content
  pub read : IsReading (square_of_bytes side modules) content
  pub room : length content.bytes ≤ length before
  pub holds : after ≡ content.bytes ++ drop (length content.bytes) before
  pub len : c.len ≡ length content.bytes
  pub version : side ≡ side_of c.version
  pub header : TellsHeader content.header c.has_header c.position c.last c.parity
  pub interpretation : TellsInterpretation content ecis_before ecis_after c.eci_count c.fnc1 c.application c.has_kanji

-- There is a content for which `reads` holds, and which has more bytes than `buffer` has [own]
abbrev pub HasMoreBytesBy : (Content → Type 0) → List ℕ → Type 0
HasMoreBytesBy reads buffer = (content : Content) × reads content × (length buffer < length content.bytes)

-- Reading the square yields a content that has more bytes than `buffer` has [own]
abbrev pub HasMoreBytes : List ℕ → ℕ → List ℕ → Type 0
HasMoreBytes modules side buffer =
    (side * side ≤ length modules) × HasMoreBytesBy (IsReading (square_of_bytes side modules)) buffer

-- `modules` has a byte for each module of the square, and reading the square may fail with `fault` [own]
abbrev pub IsUnreadAt : List ℕ → ℕ → ReadFault → Type 0
IsUnreadAt modules side fault = (side * side ≤ length modules) × IsUnread (square_of_bytes side modules) fault
