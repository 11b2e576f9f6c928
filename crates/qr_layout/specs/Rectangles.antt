-- The rectangles that `fixed_rectangles` returns for a symbol of version `v`. Together with the alignment patterns they
-- cover all modules outside the region.
use Rattle.std.specs.Prelude.{◌≡◌, ℕ, ◌<◌, ◌≤◌, Bool, ◌&&◌, ◌||◌, nat_lt, nat_le, List}
use Rattle.std.specs.List.{All, list_any}
use Rattle.qr_layout.specs.declared.region.Rectangle.{Rectangle}
use Rattle.qr_layout.specs.Region.{is_corner, is_timing, is_version_information}
use Rattle.qr_layout.specs.Version.{side_of}

-- The place in row `r` and column `c` is in the rectangle `b`, which has the rows from `top` to `bottom - 1` and the
-- columns from `left` to `right - 1` [own]
abbrev pub is_in_rectangle : ℕ → ℕ → Rectangle → Bool
is_in_rectangle r c b = nat_le b.top r && nat_lt r b.bottom && nat_le b.left c && nat_lt c b.right

-- The rectangles `bs` are inside the symbol. They cover exactly three things: the corners with a finder pattern (each
-- with its separator and format information, one also with the dark module), the timing patterns and the version
-- information (ISO/IEC 18004:2015, 6.3.3 to 6.3.5, 7.9, 7.10)
pub record AreFixed (v : ℕ) (bs : List Rectangle) : Type 0 where
  pub inside : All (λ b. (b.top ≤ b.bottom) × (b.bottom ≤ side_of v) × (b.left ≤ b.right) × (b.right ≤ side_of v)) bs
  pub places : (r c : ℕ) → r < side_of v → c < side_of v → list_any (is_in_rectangle r c) bs
      ≡ (is_corner (side_of v) r c || is_timing r c || is_version_information v r c)
