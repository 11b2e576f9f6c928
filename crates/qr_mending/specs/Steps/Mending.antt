-- How `mend_symbol_with_unknown` mends a square. `g` is the square of modules as it was read, and `unknown` is dark
-- where a module was not read.
use Rattle.std.specs.Prelude.{◌≡◌, ℕ, List, Option, Some, IfSome, MatchOption}
use Rattle.qr_layout.specs.declared.level.Level.{Level}
use Rattle.qr_matrix.specs.Grid.{Grid}
use Rattle.qr_mending.specs.declared.erasures.Changes.{Changes}
use Rattle.qr_mending.specs.declared.format.FormatCopy.{FormatCopy}
use Rattle.qr_mending.specs.declared.mending.MendedSquare.{MendedSquare}
use Rattle.qr_mending.specs.Format.{IsNearFormat}
use Rattle.qr_mending.specs.Mending.{HasFormat, HoldsDamaged, IsOfNoUse}
use Rattle.qr_mending.specs.Steps.Message.{HasCorrections}

-- With the level `l` and the mask `mask`, some block of the square cannot be mended.
abbrev pub HoldsNone : Grid → ℕ → Level → ℕ → Grid → Type 0
HoldsNone unknown v l mask g = (message : List ℕ) (changed : List Changes) → HoldsDamaged unknown v l mask g message changed → ⊥

-- With the level and the mask in `m`, all blocks of the square can be mended. `m` also has the mended data codewords,
-- the counts of misread and erased codewords in each block, and the error correction codewords that belong to the
-- mended data codewords.
pub record IsMendedSquare (unknown : Grid) (v : ℕ) (g : Grid) (m : MendedSquare) : Type 0 where
  pub held : HoldsDamaged unknown v m.level m.mask g m.blocks.message.items m.blocks.changed.items
  pub corrections : HasCorrections v m.level m.blocks.message.items m.blocks.corrections.items

-- If `near` has a level and a mask, and all blocks of the square can be mended with them, `o` is the square that is
-- mended with them. Otherwise `o` is `None`.
abbrev pub IsMendedWith : Grid → ℕ → Grid → Option (Level × ℕ) → Option MendedSquare → Type 0
IsMendedWith unknown v g near o = MatchOption o (IfSome near (λ f. HoldsNone unknown v f.0 f.1 g))
    (λ m. (near ≡ Some (m.level, m.mask)) × IsMendedSquare unknown v g m)

-- If all blocks of the square can be mended with a level and a mask that are near to the copy, `o` is the square that
-- is mended with them. Otherwise `o` is `None`.
abbrev pub IsMendedBy : Grid → ℕ → Grid → FormatCopy → Option MendedSquare → Type 0
IsMendedBy unknown v g copy o = MatchOption o (IsOfNoUse unknown copy v g)
    (λ m. IsNearFormat unknown copy g m.level m.mask × IsMendedSquare unknown v g m)

-- `o` is the square, mended with the level and the mask with which it has to be read. It is `None` if, with each level
-- and mask that are near to a copy, some block cannot be mended.
abbrev pub IsMendedByEither : Grid → ℕ → Grid → Option MendedSquare → Type 0
IsMendedByEither unknown v g o = MatchOption o ((any : FormatCopy) → IsOfNoUse unknown any v g)
    (λ m. HasFormat unknown v g m.level m.mask × IsMendedSquare unknown v g m)
