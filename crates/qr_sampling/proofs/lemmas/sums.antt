-- Sums over the numbers below a bound.
use Rattle.std.proofs.Common.{◌≡◌, ℕ, zero, suc, ◌+◌, ◌<◌, refl, ap, arith}
use Rattle.qr_sampling.specs.Sums.{sum_below}

-- if a is the sum of f below n, b is f n and d is a + b, then d is the sum of f below n + 1
pub sum_below-more : (n a b d : ℕ) (f : ℕ → ℕ) → a ≡ sum_below n f → b ≡ f n → d ≡ a + b → d ≡ sum_below (n + 1) f
sum_below-more n a b d f e g h = ends (n + 1) (omega arith)
  where
    ends : (m : ℕ) → m ≡ suc n → d ≡ sum_below m f
    ends m k = omega (arith, ap (λ z. sum_below z f) k)

-- if f k equals g k for each k below n, then f and g have the same sum below n
pub sum_below-same : (n : ℕ) (f g : ℕ → ℕ) → ((k : ℕ) → k < n → f k ≡ g k) → sum_below n f ≡ sum_below n g
sum_below-same zero f g e = refl
sum_below-same (suc n) f g e = let a = e n (omega arith) in let b = sum_below-same n f g (λ k l. e k (omega arith)) in omega arith
