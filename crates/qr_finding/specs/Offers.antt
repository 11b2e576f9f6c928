-- What a search offers.
use Rattle.std.specs.Prelude.{◌≡◌, ℕ, List, [], ◌∷◌, ◌*◌, min}
use Rattle.qr_sampling.specs.{Brightness.shown, Place.{column_of, row_of}, Sampling.sampled, Tables.IsTable}
use Rattle.qr_sampling.specs.declared.{map.Map.Map, picture.Picture.Picture}
use Rattle.qr_finding.specs.declared.finder.Found.{Found}

-- Where the corners of a symbol are whose side is `end` eighths of a module: the corner of the first module, that of the last
-- module in the first row, that of the last module, and that of the first module in the last row [own]
abbrev pub corners_of : Map → ℕ → List (ℕ × ℕ)
corners_of map end =
    (column_of map 0 0, row_of map 0 0) ∷ (column_of map end 0, row_of map end 0) ∷ (column_of map end end, row_of map end end)
    ∷ (column_of map 0 end, row_of map 0 end) ∷ []

-- The modules are what the definition of sampling gives for the picture and the way to sample, and the corners are those of
-- the map [own]
pub record IsOffer (picture : Picture) (modules : List ℕ) (found : Found) : Type 0 where
  pub modules_are : IsTable found.how.side (sampled (shown picture) found.how) modules
  pub corners_are : found.corners ≡ corners_of found.how.map (8 * min found.how.side 177)
