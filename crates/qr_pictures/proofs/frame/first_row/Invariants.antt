use Rattle.std.proofs.Common.{◌≡◌, ℕ, ◌<◌}
use Rattle.qr_pictures.specs.Pixels.{grey}
use Rattle.qr_pictures.proofs.frame.first_row.Given as goal

abbrev pub invariant-loop-y : goal.invariant-loop-y
invariant-loop-y l = (y x : ℕ) → y < l.y → x < l.picture.width → grey l.picture y x ≡ l.light
