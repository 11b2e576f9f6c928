use Rattle.std.proofs.Common.{◌≡◌, ℕ, ◌<◌, ◌≤◌}
use Rattle.qr_pictures.specs.Pixels.{grey}
use Rattle.qr_pictures.proofs.frame.end_of_rows.Given as goal

abbrev pub invariant-back : goal.invariant-back
invariant-back l = record { within : l.end ≤ l.picture.height; after : (y x : ℕ) → l.end ≤ y → y < l.picture.height → x < l.picture.width → grey l.picture y x ≡ l.light }

abbrev pub decreases-back : goal.decreases-back
decreases-back l = l.end
