-- Which bits are read from a strip. `x` has the colours of the two columns of the strip. `region` has two such columns,
-- in which a bit is set exactly if its module is in the region.
use Rattle.std.specs.Prelude.{ℕ, ◌+◌, Bool, if◌then◌else◌, List, [], ◌∷◌, ◌++◌}
use Prim.Native.Nat.{zero, suc}
use Rattle.qr_layout.specs.declared.region.Module.{Module}
use Rattle.qr_layout.specs.declared.strips.Strip.{Strip}
use Rattle.qr_matrix.specs.BitRow.{has}
use Rattle.qr_matrix.specs.Grid.{Grid, colour}
use Rattle.qr_symbol.specs.declared.spans.Columns.{Columns}
use Rattle.qr_symbol.specs.Steps.Spans.{row_of}

-- The bit that is read from a module: its colour `dark`, as a list of one bit. Outside the region the list is empty.
abbrev pub bit_if : Bool → Bool → List Bool
bit_if is_in dark = if is_in then dark ∷ [] else []

-- The bits of the row `row` of the strip. They are the colours of those modules of this row that are in the region. The
-- right module comes first.
abbrev pub bits_in_row : Columns → Columns → ℕ → List Bool
bits_in_row region x row = bit_if (has region.right row) (has x.right row) ++ bit_if (has region.left row) (has x.left row)

-- The bits of the `n` rows that follow the first `k` rows of the strip in the order of filling. `s` is the side of the
-- symbol.
abbrev pub bits_in_rows : ℕ → Strip → Columns → Columns → ℕ → ℕ → List Bool
bits_in_rows s strip region x k zero = []
bits_in_rows s strip region x k (suc n) = bits_in_row region x (row_of s strip k) ++ bits_in_rows s strip region x (k + 1) n

-- The colour of module `m` of a symbol, if `g` is the transposed square of the symbol: a row of `g` is a column of the
-- symbol.
abbrev pub colour_across : Grid → Module → Bool
colour_across g m = colour g m.col m.row
