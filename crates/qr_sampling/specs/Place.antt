-- Where a place of a symbol is in a picture. Places of a symbol are counted in eighths of a module, from the corner of the
-- symbol at the top left. Places of a picture are counted in sixteenths of a pixel, from the corner of the picture at the
-- top left.
use Rattle.std.specs.Prelude.{ℕ, ℤ, pos, negsuc, ◌+ℤ◌, ◌*ℤ◌, ◌/◌, min}
use Rattle.qr_sampling.specs.declared.map.Form.{Form}
use Rattle.qr_sampling.specs.declared.map.Map.{Map}

-- The number, or 0 if it is negative [own]
abbrev pub or_zero : ℤ → ℕ
or_zero (pos n) = n
or_zero (negsuc n) = 0

-- The value of the form at the place `u`, `v` [own]
abbrev pub value_of : Form → ℕ → ℕ → ℤ
value_of form u v = (form.a *ℤ pos u) +ℤ (form.b *ℤ pos v) +ℤ form.c

-- The quotient of two numbers, which is 0 if one of them is not positive, and at most 524,287, which is outside every
-- picture [own]
unfoldable pub quotient_of : ℤ → ℤ → ℕ
quotient_of over under = min (or_zero over / or_zero under) 524287

-- The column of the place in the picture [own]
unfoldable pub column_of : Map → ℕ → ℕ → ℕ
column_of map u v = quotient_of (value_of map.column u v) (value_of map.divisor u v)

-- The row of the place in the picture [own]
unfoldable pub row_of : Map → ℕ → ℕ → ℕ
row_of map u v = quotient_of (value_of map.row u v) (value_of map.divisor u v)
