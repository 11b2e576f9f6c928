-- Squares that were found in a picture.
use Rattle.std.specs.Prelude.{◌≡◌, ◌⊎◌, ℕ, ◌+◌, ◌*◌, ◌<◌, ◌≤◌, Bool, true, false, nat_lt, List, [], ◌∷◌, ◌++◌, length, slice_index_or}
use Rattle.std.specs.List.{All}
use Rattle.qr_finding.specs.Offers.{corners_of}
use Rattle.qr_matrix.specs.Bytes.{byte_of, square_of_bytes}
use Rattle.qr_matrix.specs.Grid.{Grid, colour, light, transposed}
use Rattle.qr_pictures.specs.Clean.{IsCleanPicture}
use Rattle.qr_pictures.specs.Pixels.{Pixels, pixels_of}
use Rattle.qr_pictures.specs.declared.clean.CleanSquare.{CleanSquare}
use Rattle.qr_pictures.specs.declared.frame.Frame.{Frame}
use Rattle.qr_pictures.specs.declared.turn.Turn.{Turn}
use Rattle.qr_pictures.specs.declared.turn.Turn.TheVariants.{Upright, Quarter, Half, ThreeQuarters}
use Rattle.qr_sampling.specs.{Brightness.shown, Sampling.sampled, Tables.{IsTable, entry}}
use Rattle.qr_sampling.specs.declared.{picture.Picture.Picture, sampling.Sampling.Sampling}
use Rattle.qr_scanning.specs.Reading.{IsReadable, IsReadableSquare, IsSurelyRead}
use Rattle.qr_scanning.specs.declared.scanning.Scanned.{Scanned}

-- The modules are what sampling gives for the picture, by a map that takes the corners of the symbol to those of the square. If the
-- square counts as read, at most one of its modules in five is wrong or not known, or in ten if its timing patterns do not show
-- its side (`share_of`) [own]
pub record IsSampled (picture : Picture) (s : Scanned) : Type 0 where
  pub how : Sampling
  pub side : s.side ≡ how.side
  pub modules : IsTable s.side (sampled (shown picture) how) s.modules.items
  pub corners : s.corners ≡ corners_of how.map (8 * s.side)
  pub inverse : s.is_inverse ≡ how.is_inverse
  pub mirrored : s.is_mirrored ≡ how.is_mirrored
  pub sure : s.is_read ≡ true → IsSurelyRead s.side s.modules.items

-- The picture as `qr_pictures` sees it [own]
abbrev pub pixels_in : Picture → Pixels
pixels_in picture = pixels_of picture.pixels.now picture.width picture.height picture.stride

-- The four corners of a picture of a square, clockwise from the one at which the symbol begins that is turned so. Before, `a`
-- is at the top left, and the others follow clockwise [own]
abbrev pub from_first : Turn → (a b c d : ℕ × ℕ) → List (ℕ × ℕ)
from_first Upright a b c d = a ∷ b ∷ c ∷ d ∷ []
from_first Quarter a b c d = b ∷ c ∷ d ∷ a ∷ []
from_first Half a b c d = c ∷ d ∷ a ∷ b ∷ []
from_first ThreeQuarters a b c d = d ∷ a ∷ b ∷ c ∷ []

-- The column after the last one of a frame, or with its top the row after its last row, in sixteenths of a pixel [own]
abbrev pub end_of : Frame → ℕ → ℕ
end_of f start = (start + f.side * f.scale) * 16

-- The corners of a square in its frame, in sixteenths of a pixel, clockwise from that of the first module [own]
abbrev pub frame_corners : CleanSquare → List (ℕ × ℕ)
frame_corners s = from_first s.turn (s.frame.left * 16, s.frame.top * 16) (end_of s.frame s.frame.left, s.frame.top * 16)
    (end_of s.frame s.frame.left, end_of s.frame s.frame.top) (s.frame.left * 16, end_of s.frame s.frame.top)

-- `modules` are those of `drawn`, in a mirrored symbol with columns and rows exchanged [own]
abbrev pub ArePlaced : Bool → ℕ → (drawn modules : List ℕ) → Type 0
ArePlaced false side drawn modules = modules ≡ drawn
ArePlaced true side drawn modules = IsTable side (λ column row. entry side drawn row column) modules

-- The picture is the drawing of a square and nothing else, and the modules are exactly those that are drawn [own]
pub record IsDrawn (picture : Picture) (s : Scanned) : Type 0 where
  pub square : CleanSquare
  pub grid : Grid
  pub clean : IsCleanPicture (pixels_in picture) square grid
  pub side : s.side ≡ square.frame.side
  pub drawn : List ℕ
  pub same : square_of_bytes s.side drawn ≡ grid
  pub placed : ArePlaced s.is_mirrored s.side drawn s.modules.items
  pub corners : s.corners ≡ frame_corners square
  pub inverse : s.is_inverse ≡ nat_lt square.frame.light square.frame.dark

-- The square is one that is in the picture, by its modules and its corners. If it counts as read, it is a symbol [own]
pub record IsScanned (picture : Picture) (s : Scanned) : Type 0 where
  pub shown : IsSampled picture s ⊎ IsDrawn picture s
  pub read : s.is_read ≡ true → IsReadable s.side s.modules.items
  pub least : 21 ≤ s.side
  pub most : s.side ≤ 177
  pub whole : length s.modules.items ≡ s.side * s.side

-- The square that is read from a square that is drawn: its mirror image if it is drawn mirrored [own]
abbrev pub as_read : (mirrored : Bool) → Grid → Grid
as_read false g = g
as_read true g = transposed g

-- The picture is the drawing of `grid`, and nothing else. This is a symbol that can be read, or the mirror image of one. It
-- counts as mirrored only if it cannot be read as it is. The rows of the picture do not overlap [own]
pub record ShowsSymbol (picture : Picture) (square : CleanSquare) (mirrored : Bool) (grid : Grid) : Type 0 where
  pub apart : picture.width ≤ picture.stride
  pub clean : IsCleanPicture (pixels_in picture) square grid
  pub read : IsReadableSquare (light square.frame.side) (as_read mirrored grid)
  pub last : mirrored ≡ true → IsReadableSquare (light square.frame.side) grid → ⊥

-- What was found is the symbol that is drawn as `grid` in `square`. Its modules are exactly those of the symbol: 1 for dark
-- and 0 for light [own]
pub record IsSymbolIn (square : CleanSquare) (mirrored : Bool) (grid : Grid) (s : Scanned) : Type 0 where
  pub side : s.side ≡ square.frame.side
  pub modules : (row col : ℕ) → row < s.side → col < s.side → slice_index_or s.modules.items (row * s.side + col) 0 ≡ byte_of (colour (as_read mirrored grid) row col)
  pub corners : s.corners ≡ frame_corners square
  pub inverse : s.is_inverse ≡ nat_lt square.frame.light square.frame.dark
  pub is_mirrored : s.is_mirrored ≡ mirrored
  pub read : s.is_read ≡ true

-- If the picture is the drawing of a symbol that can be read, and nothing else, then exactly this symbol was found. At most
-- `most` squares were asked for [own]
abbrev pub FindsSymbol : Picture → (most : ℕ) → List Scanned → Type 0
FindsSymbol picture most found = (square : CleanSquare) (mirrored : Bool) (grid : Grid) → ShowsSymbol picture square mirrored grid → 1 ≤ most
    → (s : Scanned) × (found ≡ s ∷ []) × IsSymbolIn square mirrored grid s

-- The squares that count as read come first [own]
pub record AreReadFirst (all : List Scanned) : Type 0 where
  pub read : List Scanned
  pub others : List Scanned
  pub parts : all ≡ read ++ others
  pub are_read : All (λ s. s.is_read ≡ true) read
  pub are_not : All (λ s. s.is_read ≡ false) others
