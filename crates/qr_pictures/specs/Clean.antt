-- Clean pictures: what the pixels of a picture are if it shows one symbol and nothing else, drawn without any fault.
use Rattle.std.specs.Prelude.{◌≡◌, ◌-◌}
use Rattle.qr_matrix.specs.Grid.{Grid, IsSquare, colour}
use Rattle.qr_pictures.specs.Finders.{HasFinder, HasFinders}
use Rattle.qr_pictures.specs.Pixels.{IsDrawing, Pixels}
use Rattle.qr_pictures.specs.Turns.{turned}
use Rattle.qr_pictures.specs.declared.clean.CleanSquare.{CleanSquare}
use Rattle.qr_pictures.specs.declared.turn.Turn.TheVariants.{Upright}

-- The picture is the drawing of the square `g`, in the frame and with the turn that `s` states. The square has the finder
-- patterns of an upright symbol before it is turned. If it has a finder pattern at its fourth corner too, the finder
-- patterns do not say how it is turned, and it counts as upright [own]
pub record IsCleanPicture (p : Pixels) (s : CleanSquare) (g : Grid) : Type 0 where
  pub square : IsSquare s.frame.side g
  pub finders : HasFinders s.frame.side (colour g)
  pub fourth : HasFinder s.frame.side (colour g) (s.frame.side - 4) (s.frame.side - 4) → s.turn ≡ Upright
  pub drawing : IsDrawing p s.frame (turned s.turn s.frame.side (colour g))

-- The picture is no clean picture of any square [own]
abbrev pub IsNotClean : Pixels → Type 0
IsNotClean p = (s : CleanSquare) (g : Grid) → IsCleanPicture p s g → ⊥
