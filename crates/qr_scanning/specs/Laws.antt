-- What the laws of scanning state, for symbols as `qr_symbol` makes them. Such a symbol has the version `v` and contains the input `x`.
use Rattle.std.specs.Prelude.{◌≡◌, ◌≤◌, ℕ, false, List, [], ◌∷◌, Option}
use Rattle.qr_bits.specs.Interpretation.{MayWrite}
use Rattle.qr_bits.specs.declared.{interpretation.Interpretation.Interpretation, modes.Rule.Rule, stream.Header.Header}
use Rattle.qr_layout.specs.declared.level.Level.{Level}
use Rattle.qr_matrix.specs.{Bytes.{square_of_bytes}, Grid.{Grid, light}}
use Rattle.qr_pictures.specs.Clean.{IsCleanPicture}
use Rattle.qr_pictures.specs.declared.clean.CleanSquare.{CleanSquare}
use Rattle.qr_sampling.specs.declared.picture.Picture.{Picture}
use Rattle.qr_scanning.specs.Reading.{IsReadableSquare}
use Rattle.qr_scanning.specs.Scanning.{IsSymbolIn, pixels_in}
use Rattle.qr_scanning.specs.declared.scanning.Scanned.{Scanned}
use Rattle.qr_symbol.specs.Encoding.{IsSymbolAt}
use Rattle.qr_symbol.specs.Reading.{IsReading, interpreted_content}

-- Symbols can be read [own]
abbrev pub SymbolsAreReadable : ℕ → Type 0
SymbolsAreReadable v = (x : List ℕ) (l : Level) (rule : Rule) (i : Interpretation) (h : Option Header) (mask : ℕ) (g : Grid)
    → MayWrite i x → IsSymbolAt v l rule i x h mask g → IsReadableSquare (light g.side) g

-- If the picture is the drawing of a symbol, and nothing else, then exactly this symbol was found, and reading its modules yields
-- the input. The rows of the picture do not overlap [own]
abbrev pub FindsInput : ℕ → Picture → List Scanned → Type 0
FindsInput v picture found = (x : List ℕ) (l : Level) (rule : Rule) (i : Interpretation) (h : Option Header) (mask : ℕ) (g : Grid) (square : CleanSquare)
    → MayWrite i x → (s : IsSymbolAt v l rule i x h mask g) → picture.width ≤ picture.stride → IsCleanPicture (pixels_in picture) square g
    → (z : Scanned) × (found ≡ z ∷ []) × IsSymbolIn square false g z
    × IsReading (square_of_bytes z.side z.modules.items) (interpreted_content i h s.segments x)
