-- What the tables of the code hold. Only contracts of private functions cite this file.
use Rattle.std.specs.Prelude.{ℕ, List}
use Rattle.qr_sampling.specs.{Levels.{across, light_of, mark}, Tables.IsTable}

-- The tables have for each module the sum around it in its row: of all values, of the light ones, and of their marks
pub record AreSums (side : ℕ) (f : ℕ → ℕ → ℕ) (all light count : List ℕ) : Type 0 where
  pub all_are : IsTable side (across side f) all
  pub light_are : IsTable side (across side (light_of side f)) light
  pub count_are : IsTable side (across side (λ c r. mark (light_of side f c r))) count
