-- The mean brightness of a module of a drawn square is its byte.
use Rattle.qr_sampling.specs.{Between.between, Brightness.brightness, Drawn.HasCoefficients, Place.{quotient_of, value_of}, Sampling.{rounded_mean, row_sum, square_sum}, Sums.sum_below, declared.map.Form.Form}
use Rattle.qr_sampling.proofs.lemmas.means.{places-some}
use Rattle.std.proofs.Common.{◌≡◌, ℕ, zero, suc, pos, ap, ◌+◌, ◌-◌, ◌*◌, ◌/◌, ◌%◌, ◌<◌, ◌≤◌, ◌∙◌, ◌*ℤ◌, ◌+ℤ◌, min, arith}
use Rattle.std.proofs.{Math.Nat.{min-eq_left, mul-div_cancel_left}, lemmas.Nat.div-mul-add}

-- ---- the brightness at a place

weighed : (v s t : ℕ) → t + s ≡ 16 → v * t + v * s ≡ 16 * v
weighed v s t e = let g : v * t + v * s ≡ v * (t + s) = grind arith in g ∙ (ap (λ z. v * z) e ∙ (let k : v * 16 ≡ 16 * v = omega arith in k))

between-none : (a b : ℕ) → between a b 0 ≡ 16 * a
between-none a b = omega arith

-- the brightness between two pixels that have the same, where the second one may differ if it has no weight
between-same : (a b v s : ℕ) → s < 16 → a ≡ v → (0 < s → b ≡ v) → between a b s ≡ 16 * v
between-same a b v zero h e g = between-none a b ∙ ap (λ z. 16 * z) e
between-same a b v (suc s) h e g =
    ap (λ z. z * (16 - suc s) + b * suc s) e ∙ ap (λ z. v * (16 - suc s) + z * suc s) (g (omega arith)) ∙ weighed v (suc s) (16 - suc s) (omega arith)

rounded : (v : ℕ) → (16 * (16 * v) + 128) / 256 ≡ v
rounded v = ap (λ z. z / 256) (let e : 16 * (16 * v) + 128 ≡ v * 256 + 128 = omega arith in e) ∙ div-mul-add v 256 128 (omega arith)

-- all pixels of the square at `left`, `top` with `scale` pixels on a side have this brightness
pub record IsEven (shows : ℕ → ℕ → ℕ) (left top scale v : ℕ) : Type 0 where
  pub each : (i j : ℕ) → i < scale → j < scale → shows (left + i) (top + j) ≡ v

even-at : (shows : ℕ → ℕ → ℕ) (left top scale v x y : ℕ) → IsEven shows left top scale v → left ≤ x → x < left + scale → top ≤ y → y < top + scale → shows x y ≡ v
even-at shows left top scale v x y is a b c d =
    let p : x ≡ left + (x - left) = omega arith in
    let q : y ≡ top + (y - top) = omega arith in
    ap (λ z. shows z y) p ∙ (ap (shows (left + (x - left))) q ∙ is.each (x - left) (y - top) (omega arith) (omega arith))

-- a place between the middles of these pixels has it too
pub brightness-even : (shows : ℕ → ℕ → ℕ) (left top scale v x y : ℕ) → IsEven shows left top scale v → 16 * left ≤ x → x + 16 ≤ 16 * (left + scale) → 16 * top ≤ y
    → y + 16 ≤ 16 * (top + scale) → brightness shows x y ≡ v
unfolding brightness
brightness-even shows left top scale v x y is a b c d =
    let across : (row : ℕ) → top ≤ row → row < top + scale → between (shows (x / 16) row) (shows (x / 16 + 1) row) (x % 16) ≡ 16 * v = λ row l m.
    between-same (shows (x / 16) row) (shows (x / 16 + 1) row) v (x % 16) (omega arith) (even-at shows left top scale v (x / 16) row is (omega arith) (omega arith) l m)
    (λ w. even-at shows left top scale v (x / 16 + 1) row is (omega arith) (omega arith) l m) in
    let above = between (shows (x / 16) (y / 16)) (shows (x / 16 + 1) (y / 16)) (x % 16) in
    let below = between (shows (x / 16) (y / 16 + 1)) (shows (x / 16 + 1) (y / 16 + 1)) (x % 16) in
    ap (λ z. (z + 128) / 256) (between-same above below (16 * v) (y % 16) (omega arith) (across (y / 16) (omega arith) (omega arith)) (λ w. across (y / 16 + 1) (omega arith) (omega arith)))
    ∙ rounded v

-- ---- the mean

-- the sum of numbers that are all the same
pub sum_below-constant : (n v : ℕ) (f : ℕ → ℕ) → ((k : ℕ) → k < n → f k ≡ v) → sum_below n f ≡ n * v
sum_below-constant zero v f e = omega arith
sum_below-constant (suc n) v f e = let a = e n (omega arith) in let b = sum_below-constant n v f (λ k l. e k (omega arith)) in let g : suc n * v ≡ v + n * v = grind arith in omega arith

-- a place so near to the middle of the module that all pixels are in it
abbrev Middle : (left scale reach x : ℕ) → Type 0
Middle left scale reach x = (2 * reach + 1 ≤ scale) × (x ≡ 16 * left + 8 * scale)

row_sum-even : (shows : ℕ → ℕ → ℕ) (left top scale v reach x y : ℕ) → IsEven shows left top scale v → Middle left scale reach x → 16 * top ≤ y
    → y + 16 ≤ 16 * (top + scale) → row_sum shows reach x y ≡ (2 * reach + 1) * v
unfolding row_sum
row_sum-even shows left top scale v reach x y is m c d =
    sum_below-constant (2 * reach + 1) v (λ i. brightness shows (x + 16 * i - (16 * reach + 8)) y)
    (λ i l. brightness-even shows left top scale v (x + 16 * i - (16 * reach + 8)) y is (omega arith) (omega arith) c d)

square_sum-even : (shows : ℕ → ℕ → ℕ) (left top scale v reach x y : ℕ) → IsEven shows left top scale v → Middle left scale reach x → Middle top scale reach y
    → square_sum shows reach x y ≡ (2 * reach + 1) * ((2 * reach + 1) * v)
unfolding square_sum
square_sum-even shows left top scale v reach x y is m n =
    sum_below-constant (2 * reach + 1) ((2 * reach + 1) * v) (λ j. row_sum shows reach x (y + 16 * j - (16 * reach + 8)))
    (λ j l. row_sum-even shows left top scale v reach x (y + 16 * j - (16 * reach + 8)) is m (omega arith) (omega arith))

half-below : (n : ℕ) → 0 < n → n / 2 < n
half-below n h = omega arith

mean-even : (n v : ℕ) → 0 < n → rounded_mean (v * n) n ≡ v
mean-even n v h = div-mul-add v n (n / 2) (half-below n h)

regroup : (n v : ℕ) → n * (n * v) ≡ v * (n * n)
regroup n v = grind arith

-- the mean around the middle of the module
pub mean-at-even : (shows : ℕ → ℕ → ℕ) (left top scale v reach x y : ℕ) → IsEven shows left top scale v → Middle left scale reach x → Middle top scale reach y
    → rounded_mean (square_sum shows reach x y) ((2 * reach + 1) * (2 * reach + 1)) ≡ v
mean-at-even shows left top scale v reach x y is m n =
    let places = (2 * reach + 1) * (2 * reach + 1) in
    ap (λ z. rounded_mean z places) (square_sum-even shows left top scale v reach x y is m n ∙ regroup (2 * reach + 1) v) ∙ mean-even places v (places-some reach)

-- ---- the place of the middle of a module

value-is : (form : Form) (a b c u v : ℕ) → HasCoefficients form a b c → value_of form u v ≡ pos (a * u + b * v + c)
value-is form a b c u v is =
    ap (λ z. (z *ℤ pos u) +ℤ (form.b *ℤ pos v) +ℤ form.c) is.first ∙ (ap (λ z. (pos a *ℤ pos u) +ℤ (z *ℤ pos v) +ℤ form.c) is.second
    ∙ ap (λ z. (pos a *ℤ pos u) +ℤ (pos b *ℤ pos v) +ℤ z) is.third)

quotient-is : (n x : ℕ) → 0 < n → x ≤ 524287 → quotient_of (pos (n * x)) (pos n) ≡ x
unfolding quotient_of
quotient-is n x h l = ap (λ z. min z 524287) (mul-div_cancel_left x h) ∙ min-eq_left l

pub placed-is : (over under : Form) (n a b c u v x : ℕ) → 0 < n → HasCoefficients over a b c → HasCoefficients under 0 0 n → a * u + b * v + c ≡ n * x → x ≤ 524287
    → quotient_of (value_of over u v) (value_of under u v) ≡ x
placed-is over under n a b c u v x h is one e l =
    let g : 0 * u + 0 * v + n ≡ n = omega arith in
    ap (λ z. quotient_of z (value_of under u v)) (value-is over a b c u v is ∙ ap pos e)
    ∙ (ap (quotient_of (pos (n * x))) (value-is under 0 0 n u v one ∙ ap pos g) ∙ quotient-is n x h l)
