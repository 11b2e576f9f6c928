-- What the laws of pictures state.
use Rattle.std.specs.Prelude.{◌≡◌}
use Rattle.qr_matrix.specs.Grid.{Grid}
use Rattle.qr_pictures.specs.Clean.{IsCleanPicture}
use Rattle.qr_pictures.specs.Pixels.{Pixels}
use Rattle.qr_pictures.specs.declared.clean.CleanSquare.{CleanSquare}

-- A picture is the clean picture of one square at most, in one frame and with one turn [own]
abbrev pub CleanPicturesAreOne : Type 0
CleanPicturesAreOne = (p : Pixels) (s t : CleanSquare) (g h : Grid) → IsCleanPicture p s g → IsCleanPicture p t h → (s ≡ t) × (g ≡ h)
