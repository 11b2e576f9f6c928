-- How a damaged symbol is mended and read. `g` is the square of modules as it was read, and `unknown` is dark where a
-- module was not read. `v`, `l` and `mask` are the version, the level and the mask of the symbol, `message` its data
-- codewords, and `changed` counts for each block the codewords that were misread and erased. A level and a mask are near
-- to a copy of the format information if the copy costs at most 6 with them.
use Rattle.std.specs.Prelude.{◌≡◌, ◌≢◌, ℕ, ◌+◌, ◌*◌, ◌≤◌, ◌||◌, min, Result, Ok, Err, List}
use Rattle.qr_layout.specs.declared.level.Level.{Level}
use Rattle.qr_layout.specs.Format.{format_word_of}
use Rattle.qr_bits.specs.Bits.{bits_of}
use Rattle.qr_bits.specs.Parsing.{Content, parse}
use Rattle.qr_bits.specs.declared.fault.ParseFault.{ParseFault}
use Rattle.qr_bits.specs.declared.fault.ParseFault.TheVariants as unparsed
use Rattle.qr_matrix.specs.Grid.{Grid, colour}
use Rattle.qr_matrix.specs.Difference.{differs}
use Rattle.qr_matrix.specs.Sums.{places_passing}
use Rattle.qr_symbol.specs.declared.fault.ReadFault.{ReadFault}
use Rattle.qr_symbol.specs.declared.fault.ReadFault.TheVariants as unread
use Rattle.qr_symbol.specs.Symbol.{grid_of}
use Rattle.qr_symbol.specs.Interleaving.{IsInterleaved}
use Rattle.qr_symbol.specs.Reading.{IsOfVersion, IsRead}
use Rattle.qr_mending.specs.declared.erasures.Changes.{Changes}
use Rattle.qr_mending.specs.declared.format.FormatCopy.{FormatCopy}
use Rattle.qr_mending.specs.declared.format.FormatCopy.TheVariants.{First, Second}
use Rattle.qr_mending.specs.Format.{format_cost, misread_bits, unread_bits, IsNearFormat}
use Rattle.qr_mending.specs.Message.{IsMendedIn}

-- The square `g` is read at level `l`, with the mask `mask` undone. Then its blocks can be mended to the data codewords
-- `message`. Item i of `changed` counts the codewords of block i, counted from 0, that are misread and erased (ISO/IEC
-- 18004:2015, 7.5.1, 7.6, 7.7.3, 12)
pub record HoldsDamaged (unknown : Grid) (v : ℕ) (l : Level) (mask : ℕ) (g : Grid) (message : List ℕ) (changed : List Changes) : Type 0 where
  pub codewords : List ℕ
  pub held : IsRead v mask g codewords
  pub mended : IsMendedIn unknown v l codewords message changed

-- With each level and mask that are near to the given copy, some block of the square cannot be mended (ISO/IEC
-- 18004:2015, 7.5.1, 7.9.1, 12)
abbrev pub IsOfNoUse : Grid → FormatCopy → ℕ → Grid → Type 0
IsOfNoUse unknown copy v g = (l : Level) (mask : ℕ) → IsNearFormat unknown copy g l mask
    → (message : List ℕ) (changed : List Changes) → HoldsDamaged unknown v l mask g message changed → ⊥

-- The number by which a pair of a level and a mask is compared with other pairs. The pair is near to the given copy,
-- and both copies together cost `cost` with it. Of the pairs with which all blocks can be mended, the one that has the
-- lowest number is used for reading. A higher cost gives a higher number, and between equal costs the number for the
-- first copy is lower [own]
abbrev pub compared_cost : FormatCopy → ℕ → ℕ
compared_cost First cost = 2 * cost
compared_cost Second cost = 2 * cost + 1

-- `l` and `mask` are the level and the mask with which the square is read. They are near to a copy of the format
-- information. Of all pairs of level and mask that are near to a copy, and with which all blocks can be mended, none
-- has a lower number by `compared_cost` (ISO/IEC 18004:2015, 7.9.1, 12)
pub record HasFormat (unknown : Grid) (v : ℕ) (g : Grid) (l : Level) (mask : ℕ) : Type 0 where
  pub copy : FormatCopy
  pub near : IsNearFormat unknown copy g l mask
  pub least : (other : FormatCopy) (k : Level) (n : ℕ) → IsNearFormat unknown other g k n
      → (message : List ℕ) (changed : List Changes) → HoldsDamaged unknown v k n g message changed
      → compared_cost copy (format_cost unknown g l mask) ≤ compared_cost other (format_cost unknown g k n)

-- The square `g` is a damaged form of a symbol of version `v` with the data codewords `message`. It has the side of
-- this version. `l` and `mask` are the level and the mask with which it is read (`HasFormat`). If it is read so, its
-- blocks can be mended to `message` (ISO/IEC 18004:2015, 7.5.1, 7.9.1, 12)
pub record IsDamagedForm (unknown g : Grid) (v : ℕ) (l : Level) (mask : ℕ) (message : List ℕ) (changed : List Changes) : Type 0 where
  pub sized : IsOfVersion g v
  pub format : HasFormat unknown v g l mask
  pub damaged : HoldsDamaged unknown v l mask g message changed

-- The square `g` is mended to data codewords from which parsing yields `outcome`, a content or a fault (ISO/IEC
-- 18004:2015, 12)
pub record IsMendedAs (unknown g : Grid) (v : ℕ) (l : Level) (mask : ℕ) (outcome : Result Content ParseFault) (changed : List Changes) : Type 0 where
  pub message : List ℕ
  pub form : IsDamagedForm unknown g v l mask message changed
  pub parsed : parse v (bits_of message) ≡ outcome

-- The square `g` is mended, and read as `content` (ISO/IEC 18004:2015, 12)
abbrev pub IsMendedReading : Grid → Grid → ℕ → Level → ℕ → Content → List Changes → Type 0
IsMendedReading unknown g v l mask content changed = IsMendedAs unknown g v l mask (Ok content) changed

-- How many of the 15 modules of a copy were not read or are misread, if the undamaged symbol has the level `l` and the
-- mask `mask` (ISO/IEC 18004:2015, 7.9.1)
abbrev pub wrong_bits : Grid → FormatCopy → Grid → Level → ℕ → ℕ
wrong_bits unknown copy g l mask = unread_bits unknown copy + misread_bits unknown copy g (format_word_of l mask)

-- How many of the 30 modules in both copies of the format information were not read or are misread, if the undamaged
-- symbol has the level `l` and the mask `mask` (ISO/IEC 18004:2015, 7.9.1)
abbrev pub wrong_format_modules : Grid → Grid → Level → ℕ → ℕ
wrong_format_modules unknown g l mask = wrong_bits unknown First g l mask + wrong_bits unknown Second g l mask

-- How many modules of the format information were not read or are misread in the copy that has fewer of them, if the
-- undamaged symbol has the level `l` and the mask `mask` (ISO/IEC 18004:2015, 7.9.1)
abbrev pub wrong_format_least : Grid → Grid → Level → ℕ → ℕ
wrong_format_least unknown g l mask = min (wrong_bits unknown First g l mask) (wrong_bits unknown Second g l mask)

-- How many modules of `g` were not read or have another colour than in the undamaged symbol `h` [own]
unfoldable pub wrong_modules : Grid → Grid → Grid → ℕ
wrong_modules unknown g h = places_passing g.side (λ r c. colour unknown r c || differs g h r c)

-- The undamaged symbol has the data codewords `message`, and `wrong` is the number of modules of `g` that were not read
-- or have another colour than in this symbol. All modules count, also those of function patterns, version information
-- and remainder bits (ISO/IEC 18004:2015, 7.5.2, 7.6, 7.7, 7.8)
pub record DiffersFromSymbol (unknown g : Grid) (v : ℕ) (l : Level) (mask : ℕ) (message : List ℕ) (wrong : ℕ) : Type 0 where
  pub codewords : List ℕ
  pub interleaved : IsInterleaved v l message codewords
  pub count : wrong ≡ wrong_modules unknown g (grid_of v l mask codewords)

-- The square `g` is a damaged form of a symbol, and `wrong` is the number of its modules that were not read or have
-- another colour than in this symbol (ISO/IEC 18004:2015, 7.5.2, 7.6, 7.7, 7.8)
pub record HasWrongModules (unknown g : Grid) (v : ℕ) (l : Level) (mask : ℕ) (changed : List Changes) (wrong : ℕ) : Type 0 where
  pub message : List ℕ
  pub form : IsDamagedForm unknown g v l mask message changed
  pub differs : DiffersFromSymbol unknown g v l mask message wrong

-- The square has the side of a version. Some level and mask are near to a copy of its format information, but with each
-- such level and mask some block cannot be mended (ISO/IEC 18004:2015, 7.5.1, 7.9.1, 12)
pub record IsBeyondMending (unknown g : Grid) : Type 0 where
  pub version : ℕ
  pub sized : IsOfVersion g version
  pub copy : FormatCopy
  pub level : Level
  pub mask : ℕ
  pub format : IsNearFormat unknown copy g level mask
  pub useless : (any : FormatCopy) → IsOfNoUse unknown any version g

-- The square `g` may be refused for the given fault. `Memory` is possible for every square, and `Series` for none.
-- `Side` is possible if no version has the side of `g`. `Format` is possible if no pair of a level and a mask is near
-- to a copy. `Check` is possible if there are such pairs, but with none of them can all blocks be mended. `Segments` is
-- possible if the mended message cannot be parsed (ISO/IEC 18004:2015, 12)
abbrev pub IsUnmended : Grid → Grid → ReadFault → Type 0
IsUnmended unknown g unread.Memory = Unit {0}
IsUnmended unknown g unread.Side = (v : ℕ) → IsOfVersion g v → ⊥
IsUnmended unknown g unread.Format = (v : ℕ) × IsOfVersion g v × ((copy : FormatCopy) (l : Level) (mask : ℕ) → IsNearFormat unknown copy g l mask → ⊥)
IsUnmended unknown g unread.Check = IsBeyondMending unknown g
IsUnmended unknown g (unread.Segments e) = (e ≢ unparsed.Memory) × (v : ℕ) × (l : Level) × (mask : ℕ) × (changed : List Changes) × IsMendedAs unknown g v l mask (Err e) changed
IsUnmended unknown g unread.Series = ⊥
