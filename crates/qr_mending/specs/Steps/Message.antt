-- How the code mends the blocks of a symbol. Each codeword has a mark, a byte with a bit for each of its modules. The
-- bit is 1 if the module was not read, so a mark is 0 exactly if its codeword is not erased. `b` has the sizes of the
-- blocks. `d` and `e` list the data codewords and the error correction codewords as they were read, in the order of the
-- blocks.
use Rattle.std.specs.Prelude.{◌≡◌, ℕ, ◌<◌, ◌==◌, not, Option, List, [], map, length, slice_index_or}
use Rattle.qr_layout.specs.declared.{blocks.Blocks.{Blocks}, level.Level.{Level}}
use Rattle.qr_layout.specs.Blocks.{blocks_of, data_codewords_of}
use Rattle.qr_field.specs.Polynomial.{zeros}
use Rattle.qr_symbol.specs.Interleaving.{block_count, codeword_count, correction_sizes, start_of, data_sizes}
use Rattle.qr_symbol.specs.Interleaving.{IsChecks}
use Rattle.qr_mending.specs.declared.message.{Marks.{Marks}, MarksInBlocks.{MarksInBlocks}}
use Rattle.qr_mending.specs.declared.message.Marks.TheVariants as interleaved
use Rattle.qr_mending.specs.declared.message.MarksInBlocks.TheVariants as by_block
use Rattle.qr_mending.specs.Erasures.{read_of}
use Rattle.qr_mending.specs.declared.erasures.Changes.{Changes}
use Rattle.qr_mending.specs.Message.{no_changes, received, AreInBlocks, IsMendedBlock}

-- What was read of the given codewords of a block: `None` for a codeword whose mark is not 0, and the codeword itself
-- otherwise
abbrev pub read_by : List ℕ → List ℕ → List (Option ℕ)
read_by codewords marks = read_of codewords (map (λ mark. not (mark == 0)) marks)

-- The marks of the `n` codewords of a symbol, as a list: `n` zeros if every module was read and no list was made
abbrev pub list_of : ℕ → Marks → List ℕ
list_of n interleaved.AllZero = zeros n
list_of n (interleaved.Each marks) = marks.items

-- The given `MarksInBlocks` has the same marks of a symbol as the given `Marks`. `MarksInBlocks` lists the marks block
-- by block, and `Marks` lists them in the order of the final sequence. If one of the two has no list, since every
-- module was read, the other has none either
abbrev pub AreMarksInBlocks : Blocks → Marks → MarksInBlocks → Type 0
AreMarksInBlocks b interleaved.AllZero by_block.AllZero = Unit {0}
AreMarksInBlocks b interleaved.AllZero (by_block.Each lists) = ⊥
AreMarksInBlocks b (interleaved.Each marks) by_block.AllZero = ⊥
AreMarksInBlocks b (interleaved.Each marks) (by_block.Each lists) =
    AreInBlocks b marks.items lists.data.items lists.checks.items

-- There is a mark for each codeword of the symbol, or no list of marks was made, since every module was read
abbrev pub AreWhole : Blocks → MarksInBlocks → Type 0
AreWhole b by_block.AllZero = Unit {0}
AreWhole b (by_block.Each lists) = (length lists.data.items ≡ codeword_count (data_sizes b))
    × (length lists.checks.items ≡ codeword_count (correction_sizes b))

-- The marks of the codewords of block `i`, counted from 0. If no list of marks was made, since every module was read,
-- the result is empty. A codeword without a mark counts as read
abbrev pub marks_at : Blocks → MarksInBlocks → ℕ → List ℕ
marks_at b by_block.AllZero i = []
marks_at b (by_block.Each lists) i = received b lists.data.items lists.checks.items i

-- `message` has the mended data codewords of the first `n` blocks, each of which was mended by at most `spare` error
-- correction codewords. Item i of `changed` counts the codewords of block i that are misread and erased, and `marks i`
-- are the marks of this block
pub record AreMended (b : Blocks) (spare : ℕ) (d e : List ℕ) (marks : ℕ → List ℕ) (n : ℕ) (message : List ℕ) (changed : List Changes) : Type 0 where
  pub long : length message ≡ start_of (data_sizes b) n
  pub many : length changed ≡ n
  pub each : (i : ℕ) → i < n → IsMendedBlock b spare (read_by (received b d e i) (marks i))
      (received b d e i) message (slice_index_or changed i no_changes) i

-- The interleaved codewords `cw` with the marks `marks` can be mended to the data codewords `message`. Item i of
-- `changed` counts the codewords of block i, counted from 0, that are misread and erased
pub record IsMendedMessage (b : Blocks) (spare : ℕ) (cw marks message : List ℕ) (changed : List Changes) : Type 0 where
  pub codewords : List ℕ
  pub checks : List ℕ
  pub unread : List ℕ
  pub unread_checks : List ℕ
  pub in_blocks : AreInBlocks b cw codewords checks
  pub marked : AreInBlocks b marks unread unread_checks
  pub mended : AreMended b spare codewords checks (received b unread unread_checks) (block_count (data_sizes b)) message changed

-- `corrections` lists the error correction codewords of all blocks, block by block, if `message` lists their data
-- codewords
pub record HasCorrections (v : ℕ) (l : Level) (message corrections : List ℕ) : Type 0 where
  pub long : length message ≡ data_codewords_of v l
  pub checks : IsChecks (blocks_of v l) message (block_count (data_sizes (blocks_of v l))) corrections
