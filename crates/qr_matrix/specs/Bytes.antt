-- The modules of a square as bytes, row by row, without a quiet zone. The square has `side` rows.
use Rattle.std.specs.Prelude.{ℕ, ◌+◌, ◌*◌, ◌==◌, Bool, not, if◌then◌else◌, List, slice_index_or}
use Rattle.qr_matrix.specs.Grid.{Grid, square}

-- The byte that is written for a module: 1 if it is dark, and 0 if it is light [own]
abbrev pub byte_of : Bool → ℕ
byte_of dark = if dark then 1 else 0

-- The square of `side` rows whose modules are the first bytes of `bytes`, row by row. The byte 0 is a light module, and
-- any other byte is a dark one [own]
abbrev pub square_of_bytes : ℕ → List ℕ → Grid
square_of_bytes side bytes = square side (λ row col. not (slice_index_or bytes (row * side + col) 0 == 0))

-- The square of `side` rows that is dark exactly where a module is not known. The first bytes of `bytes` are the
-- modules, row by row, and the byte 2 is a module that is not known [own]
abbrev pub square_of_unknown : ℕ → List ℕ → Grid
square_of_unknown side bytes = square side (λ row col. slice_index_or bytes (row * side + col) 0 == 2)
