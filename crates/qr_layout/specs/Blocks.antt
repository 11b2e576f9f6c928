-- How the codewords of a symbol of version `v` at level `l` are divided into blocks.
use Rattle.std.specs.Prelude.{◌≡◌, ℕ, ◌≤◌, ◌-◌, ◌+◌, ◌*◌, ◌/◌, ◌%◌, ◌==◌, if◌then◌else◌, min, List, [], ◌∷◌}
use Rattle.std.specs.List.{slice_index_or}
use Rattle.qr_layout.specs.declared.blocks.Blocks.{Blocks}
use Rattle.qr_layout.specs.declared.level.Level.{Level}
use Rattle.qr_layout.specs.declared.level.Level.TheVariants.{L, M, Q, H}
use Rattle.qr_layout.specs.Version.{total_codewords_of}

-- For each level, the number of error correction codewords in a block of each of the versions 1 to 40 (ISO/IEC
-- 18004:2015, 7.5.1, Table 9)
abbrev pub correction_table : Level → List ℕ
correction_table L = 7 ∷ 10 ∷ 15 ∷ 20 ∷ 26 ∷ 18 ∷ 20 ∷ 24 ∷ 30 ∷ 18 ∷ 20 ∷ 24 ∷ 26 ∷ 30 ∷ 22 ∷ 24 ∷ 28 ∷ 30 ∷ 28 ∷ 28 ∷ 28 ∷ 28 ∷ 30 ∷ 30 ∷ 26 ∷ 28 ∷ 30 ∷ 30 ∷ 30 ∷ 30 ∷ 30 ∷ 30 ∷ 30 ∷ 30 ∷ 30 ∷ 30 ∷ 30 ∷ 30 ∷ 30 ∷ 30 ∷ []
correction_table M = 10 ∷ 16 ∷ 26 ∷ 18 ∷ 24 ∷ 16 ∷ 18 ∷ 22 ∷ 22 ∷ 26 ∷ 30 ∷ 22 ∷ 22 ∷ 24 ∷ 24 ∷ 28 ∷ 28 ∷ 26 ∷ 26 ∷ 26 ∷ 26 ∷ 28 ∷ 28 ∷ 28 ∷ 28 ∷ 28 ∷ 28 ∷ 28 ∷ 28 ∷ 28 ∷ 28 ∷ 28 ∷ 28 ∷ 28 ∷ 28 ∷ 28 ∷ 28 ∷ 28 ∷ 28 ∷ 28 ∷ []
correction_table Q = 13 ∷ 22 ∷ 18 ∷ 26 ∷ 18 ∷ 24 ∷ 18 ∷ 22 ∷ 20 ∷ 24 ∷ 28 ∷ 26 ∷ 24 ∷ 20 ∷ 30 ∷ 24 ∷ 28 ∷ 28 ∷ 26 ∷ 30 ∷ 28 ∷ 30 ∷ 30 ∷ 30 ∷ 30 ∷ 28 ∷ 30 ∷ 30 ∷ 30 ∷ 30 ∷ 30 ∷ 30 ∷ 30 ∷ 30 ∷ 30 ∷ 30 ∷ 30 ∷ 30 ∷ 30 ∷ 30 ∷ []
correction_table H = 17 ∷ 28 ∷ 22 ∷ 16 ∷ 22 ∷ 28 ∷ 26 ∷ 26 ∷ 24 ∷ 28 ∷ 24 ∷ 28 ∷ 22 ∷ 24 ∷ 24 ∷ 30 ∷ 28 ∷ 28 ∷ 26 ∷ 28 ∷ 30 ∷ 24 ∷ 30 ∷ 30 ∷ 30 ∷ 30 ∷ 30 ∷ 30 ∷ 30 ∷ 30 ∷ 30 ∷ 30 ∷ 30 ∷ 30 ∷ 30 ∷ 30 ∷ 30 ∷ 30 ∷ 30 ∷ 30 ∷ []

-- For each level, the number of blocks in each of the versions 1 to 40 (ISO/IEC 18004:2015, 7.5.1, Table 9)
abbrev pub block_table : Level → List ℕ
block_table L = 1 ∷ 1 ∷ 1 ∷ 1 ∷ 1 ∷ 2 ∷ 2 ∷ 2 ∷ 2 ∷ 4 ∷ 4 ∷ 4 ∷ 4 ∷ 4 ∷ 6 ∷ 6 ∷ 6 ∷ 6 ∷ 7 ∷ 8 ∷ 8 ∷ 9 ∷ 9 ∷ 10 ∷ 12 ∷ 12 ∷ 12 ∷ 13 ∷ 14 ∷ 15 ∷ 16 ∷ 17 ∷ 18 ∷ 19 ∷ 19 ∷ 20 ∷ 21 ∷ 22 ∷ 24 ∷ 25 ∷ []
block_table M = 1 ∷ 1 ∷ 1 ∷ 2 ∷ 2 ∷ 4 ∷ 4 ∷ 4 ∷ 5 ∷ 5 ∷ 5 ∷ 8 ∷ 9 ∷ 9 ∷ 10 ∷ 10 ∷ 11 ∷ 13 ∷ 14 ∷ 16 ∷ 17 ∷ 17 ∷ 18 ∷ 20 ∷ 21 ∷ 23 ∷ 25 ∷ 26 ∷ 28 ∷ 29 ∷ 31 ∷ 33 ∷ 35 ∷ 37 ∷ 38 ∷ 40 ∷ 43 ∷ 45 ∷ 47 ∷ 49 ∷ []
block_table Q = 1 ∷ 1 ∷ 2 ∷ 2 ∷ 4 ∷ 4 ∷ 6 ∷ 6 ∷ 8 ∷ 8 ∷ 8 ∷ 10 ∷ 12 ∷ 16 ∷ 12 ∷ 17 ∷ 16 ∷ 18 ∷ 21 ∷ 20 ∷ 23 ∷ 23 ∷ 25 ∷ 27 ∷ 29 ∷ 34 ∷ 34 ∷ 35 ∷ 38 ∷ 40 ∷ 43 ∷ 45 ∷ 48 ∷ 51 ∷ 53 ∷ 56 ∷ 59 ∷ 62 ∷ 65 ∷ 68 ∷ []
block_table H = 1 ∷ 1 ∷ 2 ∷ 4 ∷ 4 ∷ 4 ∷ 5 ∷ 6 ∷ 8 ∷ 8 ∷ 11 ∷ 11 ∷ 16 ∷ 16 ∷ 18 ∷ 16 ∷ 19 ∷ 21 ∷ 25 ∷ 25 ∷ 25 ∷ 34 ∷ 30 ∷ 32 ∷ 35 ∷ 37 ∷ 40 ∷ 42 ∷ 45 ∷ 48 ∷ 51 ∷ 54 ∷ 57 ∷ 60 ∷ 63 ∷ 66 ∷ 70 ∷ 74 ∷ 77 ∷ 81 ∷ []

-- The number of error correction codewords in a block of version `v` at level `l`. All blocks of a symbol have equally
-- many (ISO/IEC 18004:2015, 7.5.1, Table 9)
unfoldable pub correction_len_of : ℕ → Level → ℕ
correction_len_of v l = slice_index_or (correction_table l) (v - 1) 0

-- The number of blocks of version `v` at level `l`, short and long together (ISO/IEC 18004:2015, 7.5.1, Table 9)
unfoldable pub block_count_of : ℕ → Level → ℕ
block_count_of v l = slice_index_or (block_table l) (v - 1) 0

-- The number of data codewords of version `v` at level `l`: all codewords that are not error correction codewords
-- (ISO/IEC 18004:2015, 7.4.10, Table 7)
unfoldable pub data_codewords_of : ℕ → Level → ℕ
data_codewords_of v l = total_codewords_of v - block_count_of v l * correction_len_of v l

-- The capacity of version `v` at level `l`: how many bits all data codewords of a symbol have together (ISO/IEC
-- 18004:2015, 7.4.10, Table 7)
abbrev pub capacity_of : ℕ → Level → ℕ
capacity_of v l = 8 * data_codewords_of v l

-- The block sizes of version `v` at level `l`. The data codewords are divided evenly among the blocks. If some are left
-- over, they go to the last blocks, one to each. These are the long blocks, and the others are the short ones (ISO/IEC
-- 18004:2015, 7.5.1, Table 9)
abbrev pub blocks_of : ℕ → Level → Blocks
blocks_of v l = record {
  short = block_count_of v l - data_codewords_of v l % block_count_of v l;
  short_len = data_codewords_of v l / block_count_of v l;
  long = data_codewords_of v l % block_count_of v l;
  ec_len = correction_len_of v l;
}

-- How many error correction codewords of a block are for misdecode protection, as the standard calls it: they are not
-- used to correct errors, but only to detect them. If they corrected errors too, damaged blocks would be corrected to a
-- wrong block more often (ISO/IEC 18004:2015, 7.5.1, Table 9)
abbrev pub protection_of : ℕ → Level → ℕ
protection_of v L = if v == 1 then 3 else (if v == 2 then 2 else (if v == 3 then 1 else 0))
protection_of v M = if v == 1 then 2 else 0
protection_of v Q = if v == 1 then 1 else 0
protection_of v H = if v == 1 then 1 else 0

-- How many error correction codewords of a block are used to correct errors: all but those that only detect errors
-- (ISO/IEC 18004:2015, 7.5.1, Table 9)
abbrev pub spare_of : ℕ → Level → ℕ
spare_of v l = (blocks_of v l).ec_len - protection_of v l

-- How many misread codewords can be corrected in a block if none of its codewords is erased (ISO/IEC 18004:2015, 7.5.1,
-- Table 9)
abbrev pub correctable_of : ℕ → Level → ℕ
correctable_of v l = spare_of v l / 2

-- How many codewords, of both kinds, the longest block has: a long block, or a short one if there is no long block
-- (ISO/IEC 18004:2015, 7.5.1, Table 9)
abbrev pub longest_of : Blocks → ℕ
longest_of b = b.short_len + min b.long 1 + b.ec_len

-- A percentage p for each level. If at most p percent of the codewords of a block are misread, and none is erased, then
-- what was read determines the block. This holds because, in every version, half the number of error correction
-- codewords of a block, rounded down, is at least p percent of all its codewords [own]
abbrev pub damage_of : Level → ℕ
damage_of L = 9
damage_of M = 17
damage_of Q = 23
damage_of H = 30

-- All blocks of the sizes `b` together have as many data codewords, and as many error correction codewords, as a symbol
-- of version `v` at level `l`. At least one block is short. Each block has at least one data codeword and from 1 to 30
-- error correction codewords (ISO/IEC 18004:2015, 7.5.1)
pub record AreWhole (v : ℕ) (l : Level) (b : Blocks) : Type 0 where
  pub some : 1 ≤ b.short
  pub some_len : 1 ≤ b.short_len
  pub correction_least : 1 ≤ b.ec_len
  pub correction_most : b.ec_len ≤ 30
  pub data_whole : b.short * b.short_len + b.long * (b.short_len + 1) ≡ data_codewords_of v l
  pub total_whole : data_codewords_of v l + (b.short + b.long) * b.ec_len ≡ total_codewords_of v
