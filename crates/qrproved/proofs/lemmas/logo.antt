-- What the statuses mean for an input that is encoded for a logo.
use Rattle.qr_layout.specs.{declared.level.Level.Level}
use Rattle.qr_bits.specs.declared.{interpretation.Interpretation.Interpretation, modes.Rule.Rule}
use Rattle.qr_logos.specs.{Encoding.{IsLargestCarried, IsLogoSize}}
use Rattle.std.proofs.Common.{◌≡◌, ◌<◌, ℕ, List, arith}

-- a size that may have the logo leaves no larger one that is too small for it
pub size-apart : (v : ℕ) (l : Level) (b : Rule) (how : Interpretation) (x : List ℕ) (share k w : ℕ) (m : Level) (n : ℕ)
    → IsLogoSize v l b how x share k w m → IsLargestCarried v l b how x share n × (n < k) → ⊥
size-apart v l b how x share k w m n size h = omega (arith, h.0.largest k w m size.carries, h.1)

-- two sizes are one
pub size-one : (v : ℕ) (l : Level) (b : Rule) (how : Interpretation) (x : List ℕ) (share k u w : ℕ) (m n : Level)
    → IsLogoSize v l b how x share k u m → IsLogoSize v l b how x share k w n → u ≡ w
size-one v l b how x share k u w m n a c = omega (arith, a.first w n c.carries, c.first u m a.carries)
