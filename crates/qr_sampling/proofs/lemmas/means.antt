-- The mean of the places around the middle of a module.
use Rattle.qr_sampling.specs.{Sampling.{mean_at, sharpened, value_at}, declared.sampling.Sampling.Sampling}
use Rattle.std.proofs.Common.{◌≡◌, ℕ, true, cond, ◌+◌, ◌-◌, ◌*◌, ◌/◌, ◌<◌, ◌≤◌, ◌∙◌, min, ap, sym, arith}
use Rattle.std.proofs.Math.Nat.{div-lt_iff_lt-mul}

-- the mean is a byte
pub mean-small : (sum count : ℕ) → 0 < count → sum ≤ 255 * count → (sum + count / 2) / count < 256
mean-small sum count h l = (div-lt_iff_lt-mul h).1 (omega arith)

-- the number of places
pub places-many : (reach : ℕ) → reach ≤ 4 → (2 * reach + 1) * (2 * reach + 1) ≤ 81
places-many reach h = grind arith

-- there is a place
pub places-some : (reach : ℕ) → 0 < (2 * reach + 1) * (2 * reach + 1)
places-some reach = grind arith

-- what a sharpened value is computed from
pub sharpened-is : (side : ℕ) (f : ℕ → ℕ → ℕ) (column row v o r : ℕ) → v ≡ f column row
    → o ≡ f column (row - 1) + f column (min (row + 1) (side - 1)) + f (column - 1) row + f (min (column + 1) (side - 1)) row
    → r ≡ min ((7 * v - o) / 3) 255 → r ≡ sharpened side f column row
unfolding sharpened
sharpened-is side f column row v o r e g h = h ∙ (ap (λ z. min ((7 * z - o) / 3) 255) e ∙ ap (λ z. min ((7 * f column row - z) / 3) 255) g)

-- the values of a sampling that is sharpened
pub value-sharp : (shows : ℕ → ℕ → ℕ) (how : Sampling) → how.is_sharpened ≡ true → (column row : ℕ)
    → sharpened how.side (mean_at shows how.map how.reach) column row ≡ value_at shows how column row
unfolding value_at
value-sharp shows how e column row =
    sym (ap (λ b. cond b (sharpened how.side (mean_at shows how.map how.reach) column row) (mean_at shows how.map how.reach column row)) e)
