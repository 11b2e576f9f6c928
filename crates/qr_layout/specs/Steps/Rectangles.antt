-- Rectangles that cover all modules outside the region. To draw the region, the code makes all modules of a square
-- dark, and then these rectangles light, one after the other.
use Rattle.std.specs.Prelude.{ℕ, ◌≤◌, ◌+◌, ◌-◌, nat_lt, if◌then◌else◌, List, [], ◌∷◌, ◌++◌, map}
use Rattle.qr_layout.specs.declared.region.Module.{Module}
use Rattle.qr_layout.specs.declared.region.Rectangle.{Rectangle}
use Rattle.qr_layout.specs.Version.{side_of}
use Rattle.qr_layout.specs.Alignment.{centres_of, alignment_places}

-- The rectangle `b` is inside a symbol with `s` modules on a side. It has the rows from `top` to `bottom - 1` and the
-- columns from `left` to `right - 1`, and may be empty
pub record IsInside (s : ℕ) (b : Rectangle) : Type 0 where
  pub rows : b.top ≤ b.bottom
  pub bottom : b.bottom ≤ s
  pub columns : b.left ≤ b.right
  pub right : b.right ≤ s

-- The five by five modules with the place `m` in their middle are inside a symbol with `s` modules on a side
pub record IsCentreInside (s : ℕ) (m : Module) : Type 0 where
  pub row_least : 2 ≤ m.row
  pub row_most : m.row + 3 ≤ s
  pub col_least : 2 ≤ m.col
  pub col_most : m.col + 3 ≤ s

-- The alignment pattern with the centre `m` as a rectangle: the five by five modules with this centre in their middle
-- (ISO/IEC 18004:2015, 6.3.6)
abbrev pub rectangle_around : Module → Rectangle
rectangle_around m = record { top = m.row - 2; bottom = m.row + 3; left = m.col - 2; right = m.col + 3 }

-- The alignment patterns of a symbol with `s` modules on a side as rectangles. `cs` lists the numbers of the rows that
-- contain centres, and also of the columns that do (ISO/IEC 18004:2015, 6.3.6)
abbrev pub alignment_rectangles : ℕ → List ℕ → List Rectangle
alignment_rectangles s cs = map rectangle_around (alignment_places s cs)

-- The list that `fixed_rectangles` returns for version `v`. Its rectangles are the three corners (each with a finder
-- pattern, its separator and format information, and one with the dark module), the two timing patterns, and from
-- version 7 on the two copies of the version information
abbrev pub fixed_list : ℕ → List Rectangle
fixed_list v =
    let s = side_of v in
    record { top = 0; bottom = 9; left = 0; right = 9 } ∷ record { top = 0; bottom = 9; left = s - 8; right = s }
    ∷ record { top = s - 8; bottom = s; left = 0; right = 9 } ∷ record { top = 6; bottom = 7; left = 0; right = s }
    ∷ record { top = 0; bottom = s; left = 6; right = 7 } ∷ (if nat_lt v 7 then [] else
    (record { top = 0; bottom = 6; left = s - 11; right = s - 8 }
    ∷ record { top = s - 11; bottom = s - 8; left = 0; right = 6 } ∷ []))

-- Rectangles that together cover all modules of version `v` outside the region, and no module of the region (ISO/IEC
-- 18004:2015, 6.3.7, 7.7.3)
abbrev pub taken_rectangles : ℕ → List Rectangle
taken_rectangles v = fixed_list v ++ alignment_rectangles (side_of v) (centres_of v)
