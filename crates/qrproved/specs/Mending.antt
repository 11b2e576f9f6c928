-- What `qrproved_mend` writes for a damaged symbol, and when it writes nothing. The square has `side` rows. `modules`
-- begins with a byte for each of its modules, row by row: 0 is light, 1 is dark, and 2 is a module that is not known.
-- `changed` counts for each block the codewords that were misread, those with a module that is not known, and how many
-- of the latter are wrong if each module that is not known is dark.
use Rattle.std.specs.Prelude.{◌≡◌, ℕ, ◌+◌, ◌*◌, ◌<◌, ◌≤◌, List, ◌++◌, drop, length, slice_index_or, take}
use Rattle.std.specs.List.{All, Any}
use Rattle.qr_layout.specs.declared.level.Level.{Level}
use Rattle.qr_bits.specs.Parsing.{Content}
pub use Rattle.qr_matrix.specs.Bytes.{square_of_unknown}
use Rattle.qr_symbol.specs.declared.fault.ReadFault.{ReadFault}
use Rattle.qr_mending.specs.declared.erasures.Changes.{Changes}
use Rattle.qr_mending.specs.Message.{no_changes}
use Rattle.qr_mending.specs.Mending.{wrong_format_least, wrong_format_modules, HasWrongModules, IsMendedReading, IsUnmended}
use Rattle.qr_layout.specs.Blocks.{correctable_of}
use Rattle.qrproved.specs.declared.mending.QrprovedMended.{QrprovedMended}
use Rattle.qrproved.specs.declared.interpretation.QrprovedEci.{QrprovedEci}
use Rattle.qrproved.specs.Interpretation.{TellsInterpretation}
use Rattle.qrproved.specs.Modules.{square_of_bytes}
use Rattle.qrproved.specs.Reading.{HasMoreBytesBy, TellsHeader}
use Rattle.qrproved.specs.Settings.{level_of}

-- `modules` has a byte for each module of the square, and each of these bytes is 0, 1 or 2 [own]
pub record AreModules (modules : List ℕ) (side : ℕ) : Type 0 where
  pub whole : side * side ≤ length modules
  pub each : All (λ b. b ≤ 2) (take (side * side) modules)

-- `modules` has a byte for each module of the square, but one of these bytes is more than 2 [own]
pub record HasOtherByte (modules : List ℕ) (side : ℕ) : Type 0 where
  pub whole : side * side ≤ length modules
  pub one : Any (λ b. 2 < b) (take (side * side) modules)

-- How many error correction codewords mending the block used up: one for each codeword with a module that is not
-- known, and two for each misread codeword (ISO/IEC 18004:2015, 7.5.1)
abbrev pub spent_in : Changes → ℕ
spent_in c = c.erased + 2 * c.misread

-- How many codewords of the block are wrong for a scanner that does not know which modules are not known, and so takes
-- each codeword with such a module as wrong [own]
abbrev pub wrong_in : Changes → ℕ
wrong_in c = c.erased + c.misread

-- The changes of block `i`, counted from 0 [own]
abbrev pub block_at : List Changes → ℕ → Changes
block_at changed i = slice_index_or changed i no_changes

-- `n` is the greatest value of `f` for the first `count` blocks; no number is, if `count` is 0 [own]
pub record IsGreatest (f : Changes → ℕ) (changed : List Changes) (count n : ℕ) : Type 0 where
  pub block : ℕ
  pub within : block < count
  pub one : n ≡ f (block_at changed block)
  pub most : (i : ℕ) → i < count → f (block_at changed i) ≤ n

-- Of the first `count` blocks, block `i` has the most wrong codewords for a scanner. If several blocks have the most, it
-- is the first of them [own]
pub record IsWorstBlock (changed : List Changes) (count i : ℕ) : Type 0 where
  pub within : i < count
  pub most : (k : ℕ) → k < count → wrong_in (block_at changed k) ≤ wrong_in (block_at changed i)
  pub first : (k : ℕ) → k < i → wrong_in (block_at changed k) < wrong_in (block_at changed i)

-- `m` has the numbers of the block that is the worst for a scanner: how many of its codewords were misread, how many
-- have a module that is not known, and how many of the latter are wrong if such modules are dark [own]
pub record TellsWorstBlock (m : QrprovedMended) (changed : List Changes) : Type 0 where
  pub block : ℕ
  pub worst : IsWorstBlock changed (length changed) block
  pub misread : m.worst_misread ≡ (block_at changed block).misread
  pub unknown : m.worst_unknown ≡ (block_at changed block).erased
  pub wrong : m.worst_unknown_wrong ≡ (block_at changed block).erased_wrong

-- `m` tells how damaged the symbol is. It says how many modules of the square are wrong, how many modules of the format
-- information are wrong in both copies and in the better copy, the greatest number of misread codewords of a block, the
-- most error correction codewords that mending used up in a block, the numbers of the worst block, and how many misread
-- codewords can be corrected in a block (ISO/IEC 18004:2015, 7.5.1, 7.9.1)
pub record TellsDamage (m : QrprovedMended) (changed : List Changes) (side : ℕ) (modules : List ℕ) : Type 0 where
  pub whole : HasWrongModules (square_of_unknown side modules) (square_of_bytes side modules) m.version (level_of m.level) m.mask changed m.wrong_modules
  pub format : m.wrong_format_modules ≡ wrong_format_modules (square_of_unknown side modules) (square_of_bytes side modules) (level_of m.level) m.mask
  pub least : m.wrong_format_least ≡ wrong_format_least (square_of_unknown side modules) (square_of_bytes side modules) (level_of m.level) m.mask
  pub most : IsGreatest (λ c. c.misread) changed (length changed) m.changed_most
  pub spent : IsGreatest spent_in changed (length changed) m.spent_most
  pub worst : TellsWorstBlock m changed
  pub allowed : m.changed_allowed ≡ correctable_of m.version (level_of m.level)

-- The square is mended and read, which yields `content`. After the call one buffer begins with the bytes of the
-- content, and the other with its ECI headers, or with as many of these as the buffer has room for. `m` has the number
-- of the bytes and of all headers. It also has the version, the level, the mask, the structured append header, FNC1,
-- whether there are kanji, and the damage [own]
pub record IsGivenMended (modules : List ℕ) (side : ℕ) (before after : List ℕ) (ecis_before ecis_after : List QrprovedEci) (m : QrprovedMended) : Type 0 where
  pub all_modules : AreModules modules side
  pub content : Content
  pub changed : List Changes
  pub level : m.level < 4
  pub read : IsMendedReading (square_of_unknown side modules) (square_of_bytes side modules) m.version (level_of m.level) m.mask content changed
  pub room : length content.bytes ≤ length before
  pub holds : after ≡ content.bytes ++ drop (length content.bytes) before
  pub len : m.len ≡ length content.bytes
  pub header : TellsHeader content.header m.has_header m.position m.last m.parity
  pub interpretation : TellsInterpretation content ecis_before ecis_after m.eci_count m.fnc1 m.application m.has_kanji
  pub damage : TellsDamage m changed side modules

-- Mending and reading the square yields a content that has more bytes than `buffer` has [own]
abbrev pub HasMoreMendedBytes : List ℕ → ℕ → List ℕ → Type 0
HasMoreMendedBytes modules side buffer = AreModules modules side × HasMoreBytesBy (λ content.
    (v : ℕ) × (l : Level) × (mask : ℕ) × (changed : List Changes)
    × IsMendedReading (square_of_unknown side modules) (square_of_bytes side modules) v l mask content changed) buffer

-- `modules` has a byte for each module of the square, each of these bytes is 0, 1 or 2, and mending the square may fail
-- with `fault` [own]
abbrev pub IsUnmendedAt : List ℕ → ℕ → ReadFault → Type 0
IsUnmendedAt modules side fault = AreModules modules side × IsUnmended (square_of_unknown side modules) (square_of_bytes side modules) fault
