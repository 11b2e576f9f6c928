-- How far symbols of version `v` lie apart: in how many modules or codewords they differ. The distance between two blocks
-- is the number of codewords in which they differ.
use Rattle.std.specs.Prelude.{◌≡◌, ◌⊎◌, ℕ, ◌+◌, ◌*◌, ◌<◌, ◌≤◌, Option, List, [], ◌++◌, slice_index_or}
use Rattle.qr_field.specs.Distance.{differences, erasures, errors}
use Rattle.qr_layout.specs.declared.level.Level.{Level}
use Rattle.qr_layout.specs.Blocks.{blocks_of, correctable_of}
use Rattle.qr_matrix.specs.Grid.{Grid}
use Rattle.qr_symbol.specs.Interleaving.{block_of, blocks_in}
use Rattle.qr_symbol.specs.Reading.{IsMessage}
use Rattle.qr_symbol.specs.Symbol.{grid_of}
use Rattle.qr_mending.specs.declared.format.FormatCopy.{FormatCopy}
use Rattle.qr_mending.specs.Format.{bit_differences, copy_bit}

-- A square `grid` that can be read as a symbol of version `v` and level `l` with the mask `mask`, and the data
-- codewords `message` of this symbol [own]
pub record HeldMessage (v : ℕ) (l : Level) : Type 0 where
  pub mask : ℕ
  pub grid : Grid
  pub message : List ℕ
  pub is : IsMessage v l mask grid message

-- The codewords of block `i`, counted from 0, of the symbol in the square `m.grid`. The data codewords of the block
-- come first, then its error correction codewords (ISO/IEC 18004:2015, 7.5.1)
abbrev pub held_block : (v : ℕ) (l : Level) → HeldMessage v l → ℕ → List ℕ
held_block v l m i = block_of (blocks_of v l) m.message i ++ slice_index_or m.is.interleaved.corrections i []

-- If two squares of version `v` and level `l` contain different data codewords, there is a block in which they differ
-- in more codewords than the block has error correction codewords [own]
abbrev pub MessagesLieApart : ℕ → Level → Type 0
MessagesLieApart v l =
    (m n : HeldMessage v l) → (m.message ≡ n.message → ⊥)
    → (i : ℕ) × (i < blocks_in v l) × ((blocks_of v l).ec_len + 1 ≤ differences (held_block v l m i) (held_block v l n i))

-- What was read of a damaged symbol belongs to at most one message, if each block `i` meets two conditions for some
-- number `t i`. First, at most `t i` codewords of the block are misread. Second, the number of its erased codewords,
-- plus twice `t i`, is at most the number of its error correction codewords. `read i` is what was read of block `i`,
-- where an erased codeword is `None` (ISO/IEC 18004:2015, 7.5.1)
abbrev pub DamagedMessagesAreOne : ℕ → Level → Type 0
DamagedMessagesAreOne v l =
    (m n : HeldMessage v l) (read : ℕ → List (Option ℕ)) (t : ℕ → ℕ)
    → ((i : ℕ) → i < blocks_in v l → erasures (read i) + 2 * t i ≤ (blocks_of v l).ec_len)
    → ((i : ℕ) → i < blocks_in v l → errors (read i) (held_block v l m i) ≤ t i)
    → ((i : ℕ) → i < blocks_in v l → errors (read i) (held_block v l n i) ≤ t i)
    → m.message ≡ n.message

-- The squares `g` and `h` differ in at least seven of the 15 modules of each copy of the format information (ISO/IEC
-- 18004:2015, 7.9.1, Annex C)
abbrev pub FormatsLieApart : Grid → Grid → Type 0
FormatsLieApart g h = (copy : FormatCopy) → 7 ≤ bit_differences 15 (copy_bit copy g) (copy_bit copy h)

-- There is a block in which two symbols of version `v` differ in more than 2t codewords. Here t is the number of
-- misread codewords that can be corrected in a block of version `v` and level `l` (ISO/IEC 18004:2015, 7.5.1)
abbrev pub SomeBlockLiesApart : (v : ℕ) (l k : Level) → HeldMessage v l → HeldMessage v k → Type 0
SomeBlockLiesApart v l k m n = (i : ℕ) × (i < blocks_in v l) × (2 * correctable_of v l < differences (held_block v l m i) (held_block v k n i))

-- If two symbols of version `v` have different levels or data codewords, one of two statements holds. The first is that
-- in each copy of the format information the symbols differ in at least seven modules. The second is that they have the
-- same level and mask, and that there is a block in which they differ in more than 2t codewords. Here t is the number
-- of misread codewords that can be corrected in a block of this version and level [own]
abbrev pub SymbolsLieApart : ℕ → Type 0
SymbolsLieApart v =
    (l k : Level) (m : HeldMessage v l) (n : HeldMessage v k) (cw ds : List ℕ) → m.mask < 8 → n.mask < 8
    → m.grid ≡ grid_of v l m.mask cw → n.grid ≡ grid_of v k n.mask ds
    → ((l ≡ k) × (m.message ≡ n.message) → ⊥)
    → FormatsLieApart m.grid n.grid ⊎ ((l ≡ k) × (m.mask ≡ n.mask) × SomeBlockLiesApart v l k m n)
