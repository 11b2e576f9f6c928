-- What the law of drawn squares states.
use Rattle.std.specs.Prelude.{◌≡◌, ℕ, ◌+◌, ◌*◌, ◌<◌, ◌≤◌, Bool, if◌then◌else◌}
use Rattle.qr_sampling.specs.Brightness.{shown}
use Rattle.qr_sampling.specs.Drawn.{Frame, IsDrawn, IsMapOf}
use Rattle.qr_sampling.specs.Sampling.{sampled}
use Rattle.qr_sampling.specs.declared.picture.Picture.{Picture}
use Rattle.qr_sampling.specs.declared.sampling.Sampling.{Sampling}

-- Sampling yields the modules that are drawn in a picture, and each of them is known, if the map is that of the frame
-- and no place is outside its module: a module has `2 * how.reach + 1` pixels on a side or more [own]
abbrev pub DrawnSquaresAreSampled : Type 0
DrawnSquaresAreSampled = (picture : Picture) (f : Frame) (how : Sampling) (dark : ℕ → ℕ → Bool) → IsDrawn picture f how dark
    → IsMapOf f how.map → 2 * how.reach + 1 ≤ f.scale → (column row : ℕ) → column < how.side → row < how.side
    → sampled (shown picture) how column row ≡ (if dark column row then 1 else 0)
