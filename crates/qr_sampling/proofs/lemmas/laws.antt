-- Drawn squares are sampled.
use Rattle.qr_sampling.specs.{Brightness.shown, Drawn.{Frame, IsDrawn, IsMapOf, drawn_byte, drawn_dark, pixel}, Place.{column_of, row_of}, Sampling.{mean_at, placed, sampled, sharpened, value_at}, declared.{map.Map.Map, picture.Picture.Picture, sampling.Sampling.Sampling}}
use Rattle.qr_sampling.proofs.lemmas.{drawn.{IsEven, mean-at-even, placed-is}, colours.{AreTwo, module-in-is, sharpened-two}, levels.{placed-mirrored, placed-upright}}
use Rattle.std.proofs.Common.{◌≡◌, ℕ, Bool, true, false, cond, not, refl, ap, sym, ◌+◌, ◌-◌, ◌*◌, ◌<◌, ◌≤◌, ◌∙◌, min, get_or, arith}
use Rattle.std.proofs.Math.Nat.{min-eq_left, mul-le-mul_right}

-- ---- the pixels of a module

fits : (n side scale : ℕ) → n < side → n * scale + scale ≤ side * scale
fits n side scale h =
    let a = mul-le-mul_right {m = n + 1} {n = side} scale (omega arith) in
    let b : (n + 1) * scale ≡ n * scale + scale = grind arith in
    omega arith

shown-inside : (picture : Picture) (x y : ℕ) → x < picture.width → y < picture.height → shown picture x y ≡ pixel picture x y
unfolding shown
shown-inside picture x y h l =
    ap (λ z. get_or picture.pixels.now (z * picture.stride + min x (picture.width - 1)) 0) (min-eq_left {n = y} {m = picture.height - 1} (omega arith))
    ∙ ap (λ z. get_or picture.pixels.now (y * picture.stride + z) 0) (min-eq_left {n = x} {m = picture.width - 1} (omega arith))

even : (picture : Picture) (f : Frame) (how : Sampling) (dark : ℕ → ℕ → Bool) (column row : ℕ) → IsDrawn picture f how dark → column < how.side → row < how.side
    → IsEven (shown picture) (f.left + column * f.scale) (f.top + row * f.scale) f.scale (drawn_byte how.is_inverse (drawn_dark how.is_mirrored dark column row))
even picture f how dark column row is p q = record {
  each = λ i j a b.
      let across = is.across in
      let down = is.down in
      let c = fits column how.side f.scale p in
      let d = fits row how.side f.scale q in
      shown-inside picture (f.left + column * f.scale + i) (f.top + row * f.scale + j) (omega arith) (omega arith) ∙ is.pixels column row i j p q a b;
}

-- ---- the middle of a module

middle : (n left scale k u : ℕ) → u ≡ 8 * k + 4 → n * (2 * scale) * u + n * (16 * left) ≡ n * (16 * (left + k * scale) + 8 * scale)
middle n left scale k u e =
    let a : n * (2 * scale) * u + n * (16 * left) ≡ n * (2 * (scale * u) + 16 * left) = grind arith in
    let b : scale * (8 * k + 4) ≡ 8 * (k * scale) + 4 * scale = grind arith in
    let g : 2 * (scale * (8 * k + 4)) + 16 * left ≡ 16 * (left + k * scale) + 8 * scale = omega arith in
    a ∙ (ap (λ z. n * (2 * (scale * z) + 16 * left)) e ∙ ap (λ z. n * z) g)

low : (left scale side k width : ℕ) → k < side → left + side * scale ≤ width → width ≤ 32767 → 16 * (left + k * scale) + 8 * scale ≤ 524287
low left scale side k width h l m = let a = fits k side scale h in omega arith

column-is : (f : Frame) (map : Map) (side k u v width : ℕ) → IsMapOf f map → u ≡ 8 * k + 4 → k < side → f.left + side * f.scale ≤ width → width ≤ 32767
    → column_of map u v ≡ 16 * (f.left + k * f.scale) + 8 * f.scale
unfolding column_of
column-is f map side k u v width is e h l m =
    let n = is.factor in
    let a = middle n f.left f.scale k u e in
    let g : n * (2 * f.scale) * u + 0 * v + n * (16 * f.left) ≡ n * (16 * (f.left + k * f.scale) + 8 * f.scale) = omega arith in
    placed-is map.column map.divisor n (n * (2 * f.scale)) 0 (n * (16 * f.left)) u v (16 * (f.left + k * f.scale) + 8 * f.scale) is.positive is.column is.divisor g
    (low f.left f.scale side k width h l m)

row-is : (f : Frame) (map : Map) (side k u v height : ℕ) → IsMapOf f map → v ≡ 8 * k + 4 → k < side → f.top + side * f.scale ≤ height → height ≤ 32767
    → row_of map u v ≡ 16 * (f.top + k * f.scale) + 8 * f.scale
unfolding row_of
row-is f map side k u v height is e h l m =
    let n = is.factor in
    let a = middle n f.top f.scale k v e in
    let g : 0 * u + n * (2 * f.scale) * v + n * (16 * f.top) ≡ n * (16 * (f.top + k * f.scale) + 8 * f.scale) = omega arith in
    placed-is map.row map.divisor n 0 (n * (2 * f.scale)) (n * (16 * f.top)) u v (16 * (f.top + k * f.scale) + 8 * f.scale) is.positive is.row is.divisor g
    (low f.top f.scale side k height h l m)

-- ---- the values of the modules

-- the colour of the pixels of a module
abbrev is_white : Bool → Bool → Bool
is_white inverse dark = cond dark inverse (not inverse)

byte-is : (inverse dark : Bool) → drawn_byte inverse dark ≡ cond (is_white inverse dark) 255 0
byte-is true true = refl
byte-is true false = refl
byte-is false true = refl
byte-is false false = refl

module-is : (inverse dark : Bool) → cond {A = ℕ} (is_white inverse dark) (cond inverse 1 0) (cond inverse 0 1) ≡ cond dark 1 0
module-is true true = refl
module-is true false = refl
module-is false true = refl
module-is false false = refl

means : (picture : Picture) (f : Frame) (how : Sampling) (dark : ℕ → ℕ → Bool) → IsDrawn picture f how dark → IsMapOf f how.map → 2 * how.reach + 1 ≤ f.scale
    → AreTwo how.side (λ c r. is_white how.is_inverse (drawn_dark how.is_mirrored dark c r)) (mean_at (shown picture) how.map how.reach)
unfolding mean_at
means picture f how dark is to l = record {
  each = λ c r p q.
      let across = is.across in
      let down = is.down in
      let wide = is.can_be.1 in
      let high = is.can_be.3 in
      mean-at-even (shown picture) (f.left + c * f.scale) (f.top + r * f.scale) f.scale (drawn_byte how.is_inverse (drawn_dark how.is_mirrored dark c r)) how.reach
      (column_of how.map (8 * c + 4) (8 * r + 4)) (row_of how.map (8 * c + 4) (8 * r + 4)) (even picture f how dark c r is p q)
      (l, column-is f how.map how.side c (8 * c + 4) (8 * r + 4) picture.width to refl p across wide)
      (l, row-is f how.map how.side r (8 * c + 4) (8 * r + 4) picture.height to refl q down high)
      ∙ byte-is how.is_inverse (drawn_dark how.is_mirrored dark c r);
}

values-by : (side : ℕ) (white : ℕ → ℕ → Bool) (b : Bool) (f g : ℕ → ℕ → ℕ) → AreTwo side white f → AreTwo side white g → AreTwo side white (λ c r. cond b (f c r) (g c r))
values-by side white true f g is one = record { each = is.each }
values-by side white false f g is one = record { each = one.each }

values : (picture : Picture) (f : Frame) (how : Sampling) (dark : ℕ → ℕ → Bool) → IsDrawn picture f how dark → IsMapOf f how.map → 2 * how.reach + 1 ≤ f.scale
    → AreTwo how.side (λ c r. is_white how.is_inverse (drawn_dark how.is_mirrored dark c r)) (value_at (shown picture) how)
unfolding value_at
values picture f how dark is to l =
    let white : ℕ → ℕ → Bool = λ c r. is_white how.is_inverse (drawn_dark how.is_mirrored dark c r) in
    let mean = mean_at (shown picture) how.map how.reach in
    let two = means picture f how dark is to l in
    record { each = (values-by how.side white how.is_sharpened (sharpened how.side mean) mean (sharpened-two how.side white mean two) two).each }

-- what is drawn in the place of a module is what the module is
place-is : (how : Sampling) (dark : ℕ → ℕ → Bool) (g : ℕ → ℕ → ℕ) → AreTwo how.side (λ c r. is_white how.is_inverse (drawn_dark how.is_mirrored dark c r)) g
    → (column row : ℕ) → column < how.side → row < how.side → placed how g column row ≡ cond (dark column row) 1 0
place-is how dark g two column row p q =
    by-mirror how.is_mirrored refl
  where
    by-mirror : (b : Bool) → how.is_mirrored ≡ b → placed how g column row ≡ cond (dark column row) 1 0
    by-mirror true e = sym (placed-mirrored how g column row e) ∙ (module-in-is how (λ c r. is_white how.is_inverse (drawn_dark how.is_mirrored dark c r)) g row column two q p
        ∙ (ap (λ b. cond {A = ℕ} (is_white how.is_inverse (drawn_dark b dark row column)) (cond how.is_inverse 1 0) (cond how.is_inverse 0 1)) e ∙ module-is how.is_inverse (dark column row)))
    by-mirror false e = sym (placed-upright how g column row e) ∙ (module-in-is how (λ c r. is_white how.is_inverse (drawn_dark how.is_mirrored dark c r)) g column row two p q
        ∙ (ap (λ b. cond {A = ℕ} (is_white how.is_inverse (drawn_dark b dark column row)) (cond how.is_inverse 1 0) (cond how.is_inverse 0 1)) e ∙ module-is how.is_inverse (dark column row)))

pub drawn-sampled : (picture : Picture) (f : Frame) (how : Sampling) (dark : ℕ → ℕ → Bool) → IsDrawn picture f how dark → IsMapOf f how.map → 2 * how.reach + 1 ≤ f.scale
    → (column row : ℕ) → column < how.side → row < how.side → sampled (shown picture) how column row ≡ cond (dark column row) 1 0
unfolding sampled
drawn-sampled picture f how dark is to l column row p q = place-is how dark (value_at (shown picture) how) (values picture f how dark is to l) column row p q
