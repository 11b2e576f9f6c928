-- How a text is recognized as a drawing of type UTF8, and how it is turned into a list with one byte for each of its
-- characters. The block characters of such a text are the half blocks and the full block. They have three bytes each,
-- of which the first two are E2 and 96 (hexadecimal).
use Rattle.std.specs.Prelude.{ℕ, ◌==◌, not, ◌||◌, nat_lt, Bool, List, length, take}
use Rattle.std.specs.List.{filter, position_or_len}

-- The byte is not one of the two with which each block character begins
abbrev pub is_cell : ℕ → Bool
is_cell byte = not (byte == 0xE2 || byte == 0x96)

-- One of the first 22 bytes of the text is E2 (hexadecimal), with which each block character begins. Every UTF8 text
-- has this byte there, since the module in row 0 and column 7 of its first raster is light
abbrev pub has_block : List ℕ → Bool
has_block text = nat_lt (position_or_len (λ byte. byte == 0xE2) (take 22 text)) (length (take 22 text))

-- The text in which each block character is replaced by its last byte. Spaces and newlines stay, since they are one
-- byte already
abbrev pub cells_in : List ℕ → List ℕ
cells_in text = filter is_cell text

-- The number of bytes before the first newline, which is the length of the first line
abbrev pub first_line : List ℕ → ℕ
first_line bytes = position_or_len (λ byte. byte == 10) bytes
