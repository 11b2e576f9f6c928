use Rattle.std.proofs.Common.{◌≡◌, ℕ, ◌<◌}
use Rattle.qr_pictures.specs.Pixels.{grey}
use Rattle.qr_pictures.proofs.clean.two_greys.Given as goal

abbrev pub invariant-loop-y : goal.invariant-loop-y
invariant-loop-y l = (y x : ℕ) → y < l.y → x < l.width → grey l.picture y x ≡ grey l.picture 0 0
