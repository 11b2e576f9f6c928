-- The final sequence of codewords. It consists of the data codewords of all blocks, interleaved, and then the error
-- correction codewords of all blocks, interleaved. In a list that is not interleaved, the codewords of each block come
-- after those of the block before it. `c` has the block sizes. Blocks are counted from 0, and so are the codewords in a
-- block.
use Rattle.std.specs.Prelude.{◌≡◌, ℕ, ◌+◌, ◌-◌, ◌*◌, ◌<◌, ◌⊎◌, nat_lt, if◌then◌else◌, List, [], ◌++◌, map, take, drop, length, slice_index_or}
use Rattle.std.specs.List.{All, AllPairs, Contains}
use Rattle.qr_field.specs.Polynomial.{IsCorrection}
use Rattle.qr_layout.specs.declared.blocks.Blocks.{Blocks}
use Rattle.qr_layout.specs.declared.level.Level.{Level}
use Rattle.qr_layout.specs.Blocks.{blocks_of}
use Rattle.qr_symbol.specs.declared.interleaving.BlockSizes.{BlockSizes}

-- The number of all blocks, short and long [own]
abbrev pub block_count : BlockSizes → ℕ
block_count c = c.short + c.long

-- The number of codewords in block `i`, counted from 0. The long blocks come after the short ones, and have one
-- codeword more (ISO/IEC 18004:2015, 7.5.1, Table 9)
abbrev pub block_len : BlockSizes → ℕ → ℕ
block_len c i = if nat_lt i c.short then c.short_len else c.short_len + 1

-- How many codewords come before block `i`, counted from 0, or how many codewords there are in all if `i` is the number
-- of blocks [own]
abbrev pub start_of : BlockSizes → ℕ → ℕ
start_of c i = c.short_len * i + (i - c.short)

-- The number of codewords in all blocks [own]
abbrev pub codeword_count : BlockSizes → ℕ
codeword_count c = start_of c (block_count c)

-- The sizes of the blocks `b`, counted in data codewords (ISO/IEC 18004:2015, 7.5.1)
abbrev pub data_sizes : Blocks → BlockSizes
data_sizes b = record { short = b.short; short_len = b.short_len; long = b.long }

-- The number of blocks of a symbol of version `v` and level `l` (ISO/IEC 18004:2015, 7.5.1, Table 9)
abbrev pub blocks_in : ℕ → Level → ℕ
blocks_in v l = block_count (data_sizes (blocks_of v l))

-- The sizes of the blocks `b`, counted in error correction codewords. All blocks have equally many of them, so each
-- block counts as short (ISO/IEC 18004:2015, 7.5.1)
abbrev pub correction_sizes : Blocks → BlockSizes
correction_sizes b = record { short = b.short + b.long; short_len = b.ec_len; long = 0 }

-- The position of a codeword: `block` is the index of its block, and `index` its index in this block. Both are counted
-- from 0 (ISO/IEC 18004:2015, 7.6)
pub record Position : Type 0 where
  pub index : ℕ
  pub block : ℕ

-- The codeword at position `t` comes before the one at position `u` in interleaved order. Either `t` has the smaller
-- index in a block, or both indices are equal and the block of `t` comes before that of `u` (ISO/IEC 18004:2015, 7.6)
abbrev pub ComesBefore : Position → Position → Type 0
ComesBefore t u = (t.index < u.index) ⊎ ((t.index ≡ u.index) × (t.block < u.block))

-- There is a codeword at position `t`: the block `t.block` exists, and has a codeword with the index `t.index` [own]
abbrev pub IsPosition : BlockSizes → Position → Type 0
IsPosition c t = (t.block < block_count c) × (t.index < block_len c t.block)

-- `ts` lists the positions of all codewords, in interleaved order (ISO/IEC 18004:2015, 7.6)
pub record IsPositionOrder (c : BlockSizes) (ts : List Position) : Type 0 where
  pub in_blocks : All (IsPosition c) ts
  pub complete : (t : Position) → IsPosition c t → Contains ts t
  pub rising : AllPairs ComesBefore ts

-- The codeword at position `t`, if `d` lists the codewords of all blocks, one block after the other [own]
abbrev pub codeword_at : BlockSizes → List ℕ → Position → ℕ
codeword_at c d t = slice_index_or d (start_of c t.block + t.index) 0

-- The codewords of block `i`, counted from 0, if `d` lists the codewords of all blocks, one block after the other
-- (ISO/IEC 18004:2015, 7.5.1)
abbrev pub part_of : BlockSizes → List ℕ → ℕ → List ℕ
part_of c d i = take (block_len c i) (drop (start_of c i) d)

-- The data codewords of block `i`, counted from 0, if `d` lists the data codewords of all blocks, one block after the
-- other (ISO/IEC 18004:2015, 7.5.1)
abbrev pub block_of : Blocks → List ℕ → ℕ → List ℕ
block_of b d i = part_of (data_sizes b) d i

-- The error correction codeword at position `t`, if element i of `corrections` is the list of the error correction
-- codewords of block i [own]
abbrev pub check_at : List (List ℕ) → Position → ℕ
check_at corrections t = slice_index_or (slice_index_or corrections t.block []) t.index 0

-- `cw` is the final sequence of the data codewords `d`, which are divided into the blocks `b` (ISO/IEC 18004:2015,
-- 7.5.2, 7.6)
pub record IsFinalMessage (b : Blocks) (d cw : List ℕ) : Type 0 where
  pub data_positions : List Position
  pub data_order : IsPositionOrder (data_sizes b) data_positions
  pub corrections : List (List ℕ)
  pub count : length corrections ≡ block_count (data_sizes b)
  pub each : (i : ℕ) → i < block_count (data_sizes b) → IsCorrection (block_of b d i) b.ec_len (slice_index_or corrections i [])
  pub check_positions : List Position
  pub check_order : IsPositionOrder (correction_sizes b) check_positions
  pub whole : cw ≡ map (codeword_at (data_sizes b) d) data_positions ++ map (check_at corrections) check_positions

-- `xs` lists the error correction codewords of the first `blocks` blocks, block by block, if `d` lists the data
-- codewords of all blocks, block by block (ISO/IEC 18004:2015, 7.5.2)
pub record IsChecks (b : Blocks) (d : List ℕ) (blocks : ℕ) (xs : List ℕ) : Type 0 where
  pub long : length xs ≡ start_of (correction_sizes b) blocks
  pub each : (i : ℕ) → i < blocks → IsCorrection (block_of b d i) b.ec_len (part_of (correction_sizes b) xs i)

-- `cw` is the final sequence of the data codewords `d` in a symbol of version `v` and level `l` (ISO/IEC 18004:2015,
-- 7.5.2, 7.6)
abbrev pub IsInterleaved : ℕ → Level → List ℕ → List ℕ → Type 0
IsInterleaved v l d cw = IsFinalMessage (blocks_of v l) d cw

-- `interleaved` begins with the codewords of all blocks in interleaved order, and `xs` lists the same codewords block
-- by block (ISO/IEC 18004:2015, 7.6)
pub record IsGathered (c : BlockSizes) (interleaved xs : List ℕ) : Type 0 where
  pub long : length xs ≡ codeword_count c
  pub positions : List Position
  pub order : IsPositionOrder c positions
  pub many : length positions ≡ codeword_count c
  pub same : map (codeword_at c xs) positions ≡ take (codeword_count c) interleaved
