-- Labels that fit their places.
use Rattle.{qr_documents.specs.{Sheets.{FitsSheet, label_size}, declared.sheets.SheetSettings.SheetSettings}, qrproved.specs.Drawing.squares_of_bytes}
use Rattle.std.proofs.{Common.{ℕ, zero, suc, ◌+◌, ◌*◌, List, drop}, lemmas.List.Elements.{All-cons, All-nil}}
use Rattle.std.specs.List.{All}

-- if labels of this side fit, each of the squares fits
pub all-fit : (s : SheetSettings) (side count : ℕ) (bytes : List ℕ) → FitsSheet s.sheet ((2 * s.margin + side) * s.micrometres)
    → All (λ g. FitsSheet s.sheet (label_size s g)) (squares_of_bytes side count bytes)
unfolding squares_of_bytes
all-fit s side zero bytes fits = All-nil (λ g. FitsSheet s.sheet (label_size s g))
all-fit s side (suc n) bytes fits = All-cons (λ g. FitsSheet s.sheet (label_size s g)) _ _ fits (all-fit s side n (drop (side * side) bytes) fits)
