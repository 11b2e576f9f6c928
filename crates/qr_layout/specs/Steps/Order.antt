-- The walk through a symbol with `s` modules on a side. It goes from cursor to cursor, and yields the places that are
-- in the region. A cursor has the number of its strip (`strips_left`), a row, and one of the two columns of the strip.
-- The strips are numbered from 1 at the left. The walk goes through them from right to left, so the number of a strip
-- is also how many strips the walk has still to visit, this one included, and 0 is the end.
use Rattle.std.specs.Prelude.{ℕ, ◌+◌, ◌-◌, ◌*◌, ◌/◌, ◌%◌, ◌<◌, ◌≤◌, Bool, true, false, ◌==◌, if◌then◌else◌, List, [], ◌∷◌}
use Prim.Native.Nat.{zero, suc}
use Rattle.qr_layout.specs.declared.region.Module.{Module}
use Rattle.qr_layout.specs.declared.order.Cursor.{Cursor}
use Rattle.qr_layout.specs.Region.{is_in_region}
use Rattle.qr_layout.specs.Version.{side_of}
use Rattle.qr_layout.specs.Order.{column_without_timing}
use Rattle.qr_layout.specs.Strips.{strip_at}

-- How many modules of the cursor's row and strip the walk visits before the one at the cursor. It visits the right one
-- of the two modules first, so this is 0 at the right module, and 1 at the left one
abbrev pub half_of : Bool → ℕ
half_of at_left = if at_left then 1 else 0

-- The place at which the cursor `a` is: its row, and the left or the right column of its strip
abbrev pub place_of : Cursor → Module
place_of a = let right = (strip_at a.strips_left).right in record { row = a.row; col = if a.at_left then right - 1 else right }

-- How many rows of the strip of the cursor `a` the walk visits before the row of `a`. If the strip is filled upward,
-- these are all rows below the row of `a`, and otherwise all rows above it
abbrev pub rows_before_of : ℕ → Cursor → ℕ
rows_before_of s a = if (strip_at a.strips_left).upward then s - 1 - a.row else a.row

-- How many cursors the walk has still to visit, the cursor `a` included. Each strip has two cursors in each of its `s`
-- rows
unfoldable pub left_of : ℕ → Cursor → ℕ
left_of s a = a.strips_left * (2 * s) - (2 * rows_before_of s a + half_of a.at_left)

-- The cursor that the walk visits when it leaves `a`. From the right module of a row it goes to the left one. From the
-- left one it goes to the right module of the next row: the row above in a strip that is filled upward, and otherwise
-- the row below. From the last row of a strip it goes to the right module of the same row in the next strip to the left
unfoldable pub next_of : ℕ → Cursor → Cursor
next_of s a =
    if a.at_left then
    (if rows_before_of s a + 1 == s then record { strips_left = a.strips_left - 1; row = a.row; at_left = false }
    else record { strips_left = a.strips_left; row = if (strip_at a.strips_left).upward then a.row - 1 else a.row + 1; at_left = false })
    else record { strips_left = a.strips_left; row = a.row; at_left = true }

-- `a` is a cursor of the walk through version `v`, or the end of this walk, at which no strip is left
pub record IsCursor (v : ℕ) (a : Cursor) : Type 0 where
  pub strips_in : a.strips_left ≤ 8 + 2 * v
  pub row_in : a.row < side_of v

-- The places of the cursor `a` and of those that follow, `n` cursors in all, in the order of the walk. Places outside
-- the region are left out
unfoldable pub places_among : ℕ → ℕ → Cursor → List Module
places_among v zero a = []
places_among v (suc n) a =
    if is_in_region v a.row (place_of a).col then place_of a ∷ places_among v n (next_of (side_of v) a) else places_among v n (next_of (side_of v) a)

-- The places in the region that the walk visits from the cursor `a` on, the place of `a` included, in the order of the
-- walk
unfoldable pub to_come : ℕ → Cursor → List Module
to_come v a = places_among v (left_of (side_of v) a) a

-- The cursor at which the walk of version `v` begins, in the bottom right corner
abbrev pub first_cursor : ℕ → Cursor
first_cursor v = record { strips_left = 8 + 2 * v; row = 16 + 4 * v; at_left = false }

-- The cursor that is at the place `m`, if `m` is not in column 6
unfoldable pub cursor_at : Module → Cursor
cursor_at m = let c = column_without_timing m.col in record { strips_left = c / 2 + 1; row = m.row; at_left = c % 2 == 0 }
