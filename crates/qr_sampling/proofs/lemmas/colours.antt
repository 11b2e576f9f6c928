-- Which modules are dark in a square whose values are all 0 or 255.
use Rattle.qr_sampling.specs.{Levels.{across, area, around, count_around, dark_level, distance, first_around, is_near, light_level, light_of, lights, mark, mean_level, module_of}, Sampling.{module_in, sharpened}, Sums.sum_below, declared.sampling.Sampling.Sampling}
use Rattle.std.proofs.Common.{◌≡◌, ℕ, zero, suc, Bool, true, false, cond, ltb, eqb, refl, ap, sym, ◌+◌, ◌-◌, ◌*◌, ◌/◌, ◌<◌, ◌≤◌, ◌∙◌, min, arith}
use Rattle.std.proofs.{Math.Nat.{div-le_of_le-mul, mul-div_cancel_left}, lemmas.Bool.{cond-false, le-ltb, lt-ltb, ne_eqb}}

-- the values of a square: 255 where `white` is true, and 0 elsewhere
pub record AreTwo (side : ℕ) (white : ℕ → ℕ → Bool) (f : ℕ → ℕ → ℕ) : Type 0 where
  pub each : (column row : ℕ) → column < side → row < side → f column row ≡ cond (white column row) 255 0

two-bound : (w : Bool) (v : ℕ) → v ≡ cond w 255 0 → v ≤ 255
two-bound true v e = let g : v ≡ 255 = e in omega arith
two-bound false v e = let g : v ≡ 0 = e in omega arith

-- ---- sums around a module

sum-scaled : (n m : ℕ) (g h : ℕ → ℕ) → ((k : ℕ) → k < n → g k ≡ m * h k) → sum_below n g ≡ m * sum_below n h
sum-scaled zero m g h e = omega arith
sum-scaled (suc n) m g h e = more (g n) (sum_below n g) (h n) (sum_below n h) (e n (omega arith)) (sum-scaled n m g h (λ k l. e k (omega arith)))
  where
    more : (a b c d : ℕ) → a ≡ m * c → b ≡ m * d → a + b ≡ m * (c + d)
    more a b c d p q = grind arith

sum-bound : (n m : ℕ) (g : ℕ → ℕ) → ((k : ℕ) → k < n → g k ≤ m) → sum_below n g ≤ n * m
sum-bound zero m g e = omega arith
sum-bound (suc n) m g e = let a = e n (omega arith) in let b = sum-bound n m g (λ k l. e k (omega arith)) in more (g n) (sum_below n g) a b
  where
    more : (a b : ℕ) → a ≤ m → b ≤ n * m → a + b ≤ suc n * m
    more a b p q = let e : suc n * m ≡ m + n * m = grind arith in omega arith

within : (side k i : ℕ) → k < side → i < count_around side k → first_around k + i < side
within side k i h l = omega arith

around-scaled : (side m : ℕ) (g h : ℕ → ℕ → ℕ) (column row : ℕ) → ((c r : ℕ) → c < side → r < side → g c r ≡ m * h c r) → column < side → row < side
    → around side g column row ≡ m * around side h column row
unfolding around across
around-scaled side m g h column row e p q =
    sum-scaled (count_around side row) m (λ j. across side g column (first_around row + j)) (λ j. across side h column (first_around row + j))
    (λ j l. sum-scaled (count_around side column) m (λ i. g (first_around column + i) (first_around row + j)) (λ i. h (first_around column + i) (first_around row + j))
    (λ i k. e (first_around column + i) (first_around row + j) (within side column i p k) (within side row j q l)))

around-bound : (side m : ℕ) (g : ℕ → ℕ → ℕ) (column row : ℕ) → ((c r : ℕ) → c < side → r < side → g c r ≤ m) → column < side → row < side
    → around side g column row ≤ count_around side row * (count_around side column * m)
unfolding around across
around-bound side m g column row e p q =
    sum-bound (count_around side row) (count_around side column * m) (λ j. across side g column (first_around row + j))
    (λ j l. sum-bound (count_around side column) m (λ i. g (first_around column + i) (first_around row + j))
    (λ i k. e (first_around column + i) (first_around row + j) (within side column i p k) (within side row j q l)))

product-turned : (a b m : ℕ) → a * (b * m) ≡ m * (b * a)
product-turned a b m = grind arith

area-bound : (side m : ℕ) (g : ℕ → ℕ → ℕ) (column row : ℕ) → ((c r : ℕ) → c < side → r < side → g c r ≤ m) → column < side → row < side
    → around side g column row ≤ m * area side column row
unfolding area
area-bound side m g column row e p q =
    let a = around-bound side m g column row e p q in
    let b : count_around side row * (count_around side column * m) ≡ m * (count_around side column * count_around side row) = product-turned (count_around side row) (count_around side column) m in
    omega arith

-- ---- the levels

marked : (b w : Bool) (v : ℕ) → v ≡ cond w 255 0 → cond b v 0 ≡ 255 * mark (cond b v 0)
marked true true v e = e ∙ ap (λ z. 255 * mark z) (sym e)
marked true false v e = e ∙ ap (λ z. 255 * mark z) (sym e)
marked false w v e = refl

light-marked : (side : ℕ) (white : ℕ → ℕ → Bool) (f : ℕ → ℕ → ℕ) (c r : ℕ) → AreTwo side white f → c < side → r < side
    → light_of side f c r ≡ 255 * mark (light_of side f c r)
unfolding light_of
light-marked side white f c r is p q = marked (ltb (around side f c r) (f c r * area side c r)) (white c r) (f c r) (is.each c r p q)

-- the sum of the light ones
lights-sum : (side : ℕ) (white : ℕ → ℕ → Bool) (f : ℕ → ℕ → ℕ) (column row : ℕ) → AreTwo side white f → column < side → row < side
    → around side (light_of side f) column row ≡ 255 * lights side f column row
unfolding lights
lights-sum side white f column row is p q =
    around-scaled side 255 (light_of side f) (λ c r. mark (light_of side f c r)) column row (λ c r a b. light-marked side white f c r is a b) p q

mean-exact : (n : ℕ) → mean_level (255 * n) n 4080 ≡ 4080
mean-exact zero = refl
mean-exact (suc n) = cond-false (eqb (suc n) 0) 4080 (16 * (255 * suc n) / suc n) (ne_eqb (suc n) 0 (λ e. absurd (omega arith)))
    ∙ (ap (λ z. z / suc n) (let g : 16 * (255 * suc n) ≡ suc n * 4080 = omega arith in g) ∙ exact)
  where
    exact : suc n * 4080 / suc n ≡ 4080
    exact = mul-div_cancel_left 4080 (omega arith)

mean-bound : (s n : ℕ) → s ≤ 255 * n → mean_level s n 0 ≤ 4080
mean-bound s zero h = let e : mean_level s zero 0 ≡ 0 = refl in omega arith
mean-bound s (suc n) h =
    let e : mean_level s (suc n) 0 ≡ 16 * s / suc n = cond-false (eqb (suc n) 0) 0 (16 * s / suc n) (ne_eqb (suc n) 0 (λ e. absurd (omega arith))) in
    let l : 16 * s / suc n ≤ 4080 = div-le_of_le-mul (suc n) (omega arith) in
    omega arith

light-level-is : (side : ℕ) (white : ℕ → ℕ → Bool) (f : ℕ → ℕ → ℕ) (column row : ℕ) → AreTwo side white f → column < side → row < side
    → light_level side f column row ≡ 4080
unfolding light_level
light-level-is side white f column row is p q =
    ap (λ z. mean_level z (lights side f column row) 4080) (lights-sum side white f column row is p q) ∙ mean-exact (lights side f column row)

dark-level-bound : (side : ℕ) (white : ℕ → ℕ → Bool) (f : ℕ → ℕ → ℕ) (column row : ℕ) → AreTwo side white f → column < side → row < side
    → dark_level side f column row ≤ 4080
unfolding dark_level
dark-level-bound side white f column row is p q =
    let a = area-bound side 255 f column row (λ c r k l. two-bound (white c r) (f c r) (is.each c r k l)) p q in
    let b = lights-sum side white f column row is p q in
    mean-bound (around side f column row - around side (light_of side f) column row) (area side column row - lights side f column row) (omega arith)

-- ---- the modules

near-not : (decided : Bool) (t l d : ℕ) → l - d ≤ 4 * distance t (l + d) → is_near decided t l d ≡ false
near-not true t l d h = refl
near-not false t l d h = le-ltb (4 * distance t (l + d)) (l - d) h

-- what a module with the value 255 or 0 is
module-is : (inverse decided w : Bool) (d : ℕ) → d ≤ 4080 → module_of inverse decided (32 * cond w 255 0) 4080 d ≡ cond w (cond inverse 1 0) (cond inverse 0 1)
unfolding module_of
module-is inverse decided true d h =
    ap (λ b. cond b 2 (cond (ltb 8160 (4080 + d)) (cond inverse 0 1) (cond inverse 1 0))) (near-not decided 8160 4080 d (omega arith))
    ∙ ap (λ b. cond b (cond inverse 0 1) (cond inverse 1 0)) (le-ltb 8160 (4080 + d) (omega arith))
module-is inverse decided false d h =
    ap (λ b. cond b 2 (cond (ltb 0 (4080 + d)) (cond inverse 0 1) (cond inverse 1 0))) (near-not decided 0 4080 d (omega arith))
    ∙ ap (λ b. cond b (cond inverse 0 1) (cond inverse 1 0)) (lt-ltb 0 (4080 + d) (omega arith))

pub module-in-is : (how : Sampling) (white : ℕ → ℕ → Bool) (f : ℕ → ℕ → ℕ) (column row : ℕ) → AreTwo how.side white f → column < how.side → row < how.side
    → module_in how f column row ≡ cond (white column row) (cond how.is_inverse 1 0) (cond how.is_inverse 0 1)
unfolding module_in
module-in-is how white f column row is p q =
    let d = dark_level how.side f column row in
    ap (λ z. module_of how.is_inverse how.is_decided (32 * z) (light_level how.side f column row) d) (is.each column row p q)
    ∙ (ap (λ z. module_of how.is_inverse how.is_decided (32 * cond (white column row) 255 0) z d) (light-level-is how.side white f column row is p q)
    ∙ module-is how.is_inverse how.is_decided (white column row) d (dark-level-bound how.side white f column row is p q))

-- ---- values that stand out

sharp-white : (v s : ℕ) → v ≡ 255 → s ≤ 1020 → min ((7 * v - s) / 3) 255 ≡ 255
sharp-white v s e h = omega arith

sharp-black : (v s : ℕ) → v ≡ 0 → min ((7 * v - s) / 3) 255 ≡ 0
sharp-black v s e = omega arith

sharp-value : (w : Bool) (v s : ℕ) → v ≡ cond w 255 0 → s ≤ 1020 → min ((7 * v - s) / 3) 255 ≡ cond w 255 0
sharp-value true v s e h = sharp-white v s e h
sharp-value false v s e h = sharp-black v s e

-- values of 0 and 255 stay what they are
pub sharpened-two : (side : ℕ) (white : ℕ → ℕ → Bool) (f : ℕ → ℕ → ℕ) → AreTwo side white f → AreTwo side white (sharpened side f)
unfolding sharpened
sharpened-two side white f is = record {
  each = λ c r p q.
      let b : (c r : ℕ) → c < side → r < side → f c r ≤ 255 = λ c r k l. two-bound (white c r) (f c r) (is.each c r k l) in
      let b1 = b c (r - 1) p (omega arith) in
      let b2 = b c (min (r + 1) (side - 1)) p (omega arith) in
      let b3 = b (c - 1) r (omega arith) q in
      let b4 = b (min (c + 1) (side - 1)) r (omega arith) q in
      sharp-value (white c r) (f c r) (f c (r - 1) + f c (min (r + 1) (side - 1)) + f (c - 1) r + f (min (c + 1) (side - 1)) r) (is.each c r p q) (omega arith);
}
