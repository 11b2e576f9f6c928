-- Rows of pixels, and what the drawing of a square has at a pixel.
use Rattle.std.proofs.Common.{◌≡◌, ◌⊎◌, ℕ, ◌+◌, ◌-◌, ◌*◌, ◌/◌, ◌%◌, ◌<◌, ◌≤◌, Bool, true, false, cond, ◌&&◌, List, get_or, take, drop, None, Some, sym, ap, ◌∙◌, arith, inl, inr}
use Rattle.std.proofs.lemmas.{List.{get_or-drop, get_or-take}, Bool.{cases_Bool}, Bool.Decides.{nat_tests}, Nat.{row_fits, div_below, div-add-mod', mod_below}}
use Rattle.qr_pictures.specs.Pixels.{IsDrawing, Pixels, drawn_grey, grey, is_inside, pixels_of}
use Rattle.qr_pictures.specs.declared.frame.Frame.{Frame}

-- a pixel of a row
pub row-shown : (bytes : List ℕ) (width height stride y x : ℕ) → x < width → get_or (take (y * stride + width - y * stride) (drop (y * stride) bytes)) x 0 ≡ grey (pixels_of bytes width height stride) y x
unfolding grey
row-shown bytes width height stride y x l =
    let lt : x < y * stride + width - y * stride = omega arith in
    get_or-take (y * stride + width - y * stride) (drop (y * stride) bytes) x 0 lt ∙ get_or-drop (y * stride) bytes x 0

-- the pixels of module k
pub module-in : (k n scale : ℕ) → k < n → k * scale + scale ≤ n * scale
module-in k n scale l = row_fits k scale n scale l (omega arith)

-- the module at the distance d from the edge of the square
pub module-at : (d n scale : ℕ) → 1 ≤ scale → d < n * scale → (d / scale < n) × (d % scale < scale) × (d / scale * scale + d % scale ≡ d)
module-at d n scale some l = (div_below d scale n (omega arith) l, mod_below d scale (omega arith), div-add-mod' d scale)

-- ---- pixels in the square and outside of it

pub inside : (f : Frame) (y x : ℕ) → f.top ≤ y → y < f.top + f.side * f.scale → f.left ≤ x → x < f.left + f.side * f.scale → is_inside f y x ≡ true
inside f y x a b c d = grind (arith, nat_tests)

pub above : (f : Frame) (y x : ℕ) → y < f.top → is_inside f y x ≡ false
above f y x l = grind (arith, nat_tests)

pub below : (f : Frame) (y x : ℕ) → f.top + f.side * f.scale ≤ y → is_inside f y x ≡ false
below f y x l = grind (arith, nat_tests)

pub before : (f : Frame) (y x : ℕ) → x < f.left → is_inside f y x ≡ false
before f y x l = grind (arith, nat_tests)

pub after : (f : Frame) (y x : ℕ) → f.left + f.side * f.scale ≤ x → is_inside f y x ≡ false
after f y x l = grind (arith, nat_tests)

-- what it means that a pixel is in the square
pub bounds : (f : Frame) (y x : ℕ) → is_inside f y x ≡ true → (f.top ≤ y) × (y < f.top + f.side * f.scale) × (f.left ≤ x) × (x < f.left + f.side * f.scale)
bounds f y x e = grind (arith, nat_tests)

pub grey-inside : (f : Frame) (dark : ℕ → ℕ → Bool) (y x : ℕ) → is_inside f y x ≡ true → drawn_grey f dark y x ≡ cond (dark ((y - f.top) / f.scale) ((x - f.left) / f.scale)) f.dark f.light
unfolding drawn_grey
grey-inside f dark y x e = ap (λ b. cond (b && dark ((y - f.top) / f.scale) ((x - f.left) / f.scale)) f.dark f.light) e

pub grey-outside : (f : Frame) (dark : ℕ → ℕ → Bool) (y x : ℕ) → is_inside f y x ≡ false → drawn_grey f dark y x ≡ f.light
unfolding drawn_grey
grey-outside f dark y x e = ap (λ b. cond (b && dark ((y - f.top) / f.scale) ((x - f.left) / f.scale)) f.dark f.light) e

-- each pixel has one of the two grey values
pub grey-two : (f : Frame) (dark : ℕ → ℕ → Bool) (y x : ℕ) → (drawn_grey f dark y x ≡ f.dark) ⊎ (drawn_grey f dark y x ≡ f.light)
grey-two f dark y x =
    elim (cases_Bool (is_inside f y x)) [ inl e ↦ elim (cases_Bool (dark ((y - f.top) / f.scale) ((x - f.left) / f.scale))) [ inl d ↦ inl (grey-inside f dark y x e ∙ ap (λ b. cond b f.dark f.light) d) | inr d ↦ inr (grey-inside f dark y x e ∙ ap (λ b. cond b f.dark f.light) d) ] | inr e ↦ inr (grey-outside f dark y x e) ]

-- two functions that agree on the modules of the square are drawn in the same way
pub drawn-same : (f : Frame) (dark other : ℕ → ℕ → Bool) (y x : ℕ) → 1 ≤ f.scale → ((r c : ℕ) → r < f.side → c < f.side → dark r c ≡ other r c) → drawn_grey f dark y x ≡ drawn_grey f other y x
drawn-same f dark other y x some same =
    elim (cases_Bool (is_inside f y x)) [
      | inl e ↦
          let b = bounds f y x e in
          let r = module-at (y - f.top) f.side f.scale some (omega arith) in
          let c = module-at (x - f.left) f.side f.scale some (omega arith) in
          grey-inside f dark y x e ∙ ap (λ b. cond b f.dark f.light) (same ((y - f.top) / f.scale) ((x - f.left) / f.scale) r.0 c.0) ∙ sym (grey-inside f other y x e)
      | inr e ↦ grey-outside f dark y x e ∙ sym (grey-outside f other y x e)
    ]

pub drawing-same : (p : Pixels) (f : Frame) (dark other : ℕ → ℕ → Bool) → ((r c : ℕ) → r < f.side → c < f.side → dark r c ≡ other r c) → IsDrawing p f dark → IsDrawing p f other
drawing-same p f dark other same h = record { frame = h.frame; pixels = λ y x l m. h.pixels y x l m ∙ drawn-same f dark other y x h.frame.scaled same }

-- a pixel in the square
pub shown-inside : (p : Pixels) (f : Frame) (dark : ℕ → ℕ → Bool) (y x : ℕ) → IsDrawing p f dark → f.top ≤ y → y < f.top + f.side * f.scale → f.left ≤ x → x < f.left + f.side * f.scale
    → grey p y x ≡ cond (dark ((y - f.top) / f.scale) ((x - f.left) / f.scale)) f.dark f.light
shown-inside p f dark y x h a b c d =
    let down = h.frame.down in
    let across = h.frame.across in
    h.pixels y x (omega arith) (omega arith) ∙ grey-inside f dark y x (inside f y x a b c d)

-- ---- optional values

pub none-some : {A : Type 0} {X : Type 0} {a : A} → None ≡ Some a → X
none-some e = cc

pub some-one : {A : Type 0} {a b : A} → Some a ≡ Some b → a ≡ b
some-one e = cc

-- a pair of numbers
abbrev pub both : ℕ → ℕ → (ℕ × ℕ)
both a b = (a, b)

pub some-pair : (a b c d : ℕ) → Some (both a b) ≡ Some (both c d) → (a ≡ c) × (b ≡ d)
some-pair a b c d e =
    let f : both a b ≡ both c d = some-one e in (ap (λ (z : ℕ × ℕ). z.0) f, ap (λ (z : ℕ × ℕ). z.1) f)
