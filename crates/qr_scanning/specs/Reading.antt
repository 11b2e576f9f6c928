-- When a square counts as a symbol.
use Rattle.std.specs.Prelude.{◌≡◌, ℕ, ◌+◌, ◌-◌, ◌*◌, ◌%◌, ◌==◌, ◌||◌, ◌≤◌, Bool, true, List, if◌then◌else◌, leb, slice_index_or}
use Rattle.std.specs.List.{All}
use Rattle.qr_bits.specs.Parsing.{Content}
use Rattle.qr_layout.specs.Blocks.{spare_of}
use Rattle.qr_layout.specs.declared.level.Level.{Level}
use Rattle.qr_matrix.specs.Bytes.{square_of_bytes, square_of_unknown}
use Rattle.qr_matrix.specs.Grid.{Grid}
use Rattle.qr_mending.specs.Mending.{HasWrongModules, IsMendedReading}
use Rattle.qr_mending.specs.declared.erasures.Changes.{Changes}
use Rattle.qr_sampling.specs.Sums.{sum_below}

-- What was read of a block is checked. Each erased codeword and each misread one takes one of the `spare` codewords that correct the
-- block, for its value, and at least three more are left to check the block. A block of which no codeword is erased needs no more than
-- mending asks for: each misread codeword takes two [own]
abbrev pub is_checked : (spare : ℕ) → Changes → Bool
is_checked spare c = c.erased == 0 || leb (c.erased + c.misread + 3) spare

-- The square `g` is mended and read, each of its blocks is checked, and at most one of its modules in `share` is wrong or not known.
-- `unknown` is dark where a module is not known [own]
pub record IsReadableBy (share : ℕ) (unknown g : Grid) : Type 0 where
  pub version : ℕ
  pub level : Level
  pub mask : ℕ
  pub content : Content
  pub changed : List Changes
  pub wrong : ℕ
  pub read : IsMendedReading unknown g version level mask content changed
  pub counted : HasWrongModules unknown g version level mask changed wrong
  pub few : wrong * share ≤ g.side * g.side
  pub checked : All (λ c. is_checked (spare_of version level) c ≡ true) changed

-- The same, if one module in five may be wrong or not known [own]
abbrev pub IsReadableSquare : (unknown g : Grid) → Type 0
IsReadableSquare unknown g = IsReadableBy 5 unknown g

-- The square that `modules` begins with is mended and read, and at most one of its modules in five is wrong or not known
-- [own]
abbrev pub IsReadable : (side : ℕ) (modules : List ℕ) → Type 0
IsReadable side modules = IsReadableSquare (square_of_unknown side modules) (square_of_bytes side modules)

-- 1 if a module of a timing pattern, which is `k` modules from the edge and has this byte, is wrong or not known, and otherwise 0. It
-- is dark if `k` is even (ISO/IEC 18004:2015, 6.3.5)
abbrev pub is_wrong_timing : (byte k : ℕ) → ℕ
is_wrong_timing byte k = if byte == 1 - k % 2 then 0 else 1

-- How many modules of both timing patterns are wrong or not known: of the row and of the column 6, from module 8 to the ninth from
-- the end (ISO/IEC 18004:2015, 6.3.5)
abbrev pub wrong_timing : (side : ℕ) (modules : List ℕ) → ℕ
wrong_timing side modules = sum_below (side - 16) (λ i. is_wrong_timing (slice_index_or modules (6 * side + (8 + i)) 0) (8 + i)
    + is_wrong_timing (slice_index_or modules ((8 + i) * side + 6) 0) (8 + i))

-- Of how many modules one may be wrong or not known in a square that is sampled: of five, or of ten if more than one in eight of the
-- modules of the timing patterns is wrong or not known. The timing patterns show that a square has the right side [own]
abbrev pub share_of : (side : ℕ) (modules : List ℕ) → ℕ
share_of side modules = if leb (wrong_timing side modules * 4) (side - 16) then 5 else 10

-- The square that `modules` begins with is mended and read, and so few of its modules are wrong or not known [own]
abbrev pub IsSurelyRead : (side : ℕ) (modules : List ℕ) → Type 0
IsSurelyRead side modules = IsReadableBy (share_of side modules) (square_of_unknown side modules) (square_of_bytes side modules)
