-- How the message of a damaged symbol is mended block by block. `unknown` is a square that is dark where a module of
-- the symbol was not read; a codeword with such a module is erased. `b` has the sizes of the blocks, `cw` lists the
-- interleaved codewords as they were read, and `places` is the order of the modules of the region. An erased codeword
-- uses up one error correction codeword, and a misread one uses up two.
use Rattle.std.specs.Prelude.{◌≡◌, ℕ, ◌+◌, ◌*◌, ◌<◌, ◌≤◌, if◌then◌else◌, Option, None, Some, List, ◌++◌, map, take, drop, length, slice_index, slice_index_or}
use Rattle.std.specs.List.{list_any, range_with_len}
use Rattle.qr_field.specs.Polynomial.{IsCorrection}
use Rattle.qr_field.specs.Distance.{erasures}
use Rattle.qr_layout.specs.declared.blocks.Blocks.{Blocks}
use Rattle.qr_layout.specs.declared.level.Level.{Level}
use Rattle.qr_layout.specs.declared.region.Module.{Module}
use Rattle.qr_layout.specs.Blocks.{blocks_of, spare_of}
use Rattle.qr_layout.specs.Order.{IsOrder}
use Rattle.qr_layout.specs.Version.{total_codewords_of}
use Rattle.qr_matrix.specs.Grid.{Grid, colour}
use Rattle.qr_mending.specs.declared.erasures.Changes.{Changes}
use Rattle.qr_mending.specs.Erasures.{changes_of}
use Rattle.qr_symbol.specs.Interleaving.{block_count, codeword_count, data_sizes, correction_sizes, part_of, IsGathered}

-- The codewords of block `i`, counted from 0: its part of `d`, which lists the data codewords of all blocks, and then
-- its part of `e`, which lists their error correction codewords (ISO/IEC 18004:2015, 7.5.1)
abbrev pub received : Blocks → List ℕ → List ℕ → ℕ → List ℕ
received b d e i = part_of (data_sizes b) d i ++ part_of (correction_sizes b) e i

-- The eight modules of codeword `k` of the final sequence, counted from 0, if `places` is the order of all modules of
-- the region (ISO/IEC 18004:2015, 7.7.3)
abbrev pub modules_of : List Module → ℕ → List Module
modules_of places k = take 8 (drop (8 * k) places)

-- What was read of codeword `k` of the final sequence, counted from 0: `None` if one of its modules was not read, and
-- its value in `cw` otherwise (ISO/IEC 18004:2015, 7.7.3)
abbrev pub read_at : Grid → List Module → List ℕ → ℕ → Option ℕ
read_at unknown places cw k =
    if list_any (λ m. colour unknown m.row m.col) (modules_of places k) then None else Some (slice_index cw k)

-- `interleaved` has an item for each codeword (the codeword itself, its mark or its index), in the order of the final
-- sequence. `d` lists the items of the data codewords, block by block, and `e` those of the error correction codewords
-- in the same way (ISO/IEC 18004:2015, 7.5.1, 7.6)
pub record AreInBlocks (b : Blocks) (interleaved d e : List ℕ) : Type 0 where
  pub gathered : IsGathered (data_sizes b) interleaved d
  pub rest : IsGathered (correction_sizes b) (drop (codeword_count (data_sizes b)) interleaved) e

-- `indices` lists, block by block, the indices that the data codewords have in the final sequence, and `checks` lists
-- those of the error correction codewords in the same way (ISO/IEC 18004:2015, 7.6)
abbrev pub AreIndices : ℕ → Level → List ℕ → List ℕ → Type 0
AreIndices v l indices checks = AreInBlocks (blocks_of v l) (range_with_len 0 (total_codewords_of v)) indices checks

-- The changes of a block without a misread or erased codeword [own]
abbrev pub no_changes : Changes
no_changes = record { misread = 0; erased = 0; erased_wrong = 0 }

-- `read` is what was read of block `i`, counted from 0, and `values` are the values of all its codewords as they were
-- read, also of the erased ones. The block can be mended by at most `spare` error correction codewords, and then its
-- data codewords are those of block `i` in `message`. `changes` counts the codewords of the block that are misread and
-- erased (ISO/IEC 18004:2015, 7.5.1)
pub record IsMendedBlock (b : Blocks) (spare : ℕ) (read : List (Option ℕ)) (values message : List ℕ) (changes : Changes) (i : ℕ) : Type 0 where
  pub correction : List ℕ
  pub corrects : IsCorrection (part_of (data_sizes b) message i) b.ec_len correction
  pub few : erasures read + 2 * changes.misread ≤ spare
  pub count : changes ≡ changes_of read values (part_of (data_sizes b) message i ++ correction)

-- The codewords `cw` of a symbol of version `v` and level `l`, as they were read, can be mended to the data codewords
-- `message`. Item i of `changed` counts the codewords of block i, counted from 0, that are misread and erased (ISO/IEC
-- 18004:2015, 7.5.1, 7.6, 7.7.3)
pub record IsMendedIn (unknown : Grid) (v : ℕ) (l : Level) (cw message : List ℕ) (changed : List Changes) : Type 0 where
  pub places : List Module
  pub order : IsOrder v places
  pub indices : List ℕ
  pub checks : List ℕ
  pub inside : AreIndices v l indices checks
  pub long : length message ≡ codeword_count (data_sizes (blocks_of v l))
  pub many : length changed ≡ block_count (data_sizes (blocks_of v l))
  pub each : (i : ℕ) → i < block_count (data_sizes (blocks_of v l)) → IsMendedBlock (blocks_of v l) (spare_of v l)
      (map (read_at unknown places cw) (received (blocks_of v l) indices checks i))
      (map (slice_index cw) (received (blocks_of v l) indices checks i)) message (slice_index_or changed i no_changes) i
