-- The modules of a raster, and the pixels of a row, one by one.
use Rattle.std.proofs.Common.{◌≡◌, ℕ, zero, suc, ◌+◌, ◌-◌, ◌*◌, ◌/◌, ◌%◌, ◌^◌, ◌<◌, ◌≤◌, refl, ap, sym, ◌∙◌, inl, inr, arith, Bool, true, false, not, eqb, if◌then◌else◌, List, [], get_or, length}
use Rattle.std.proofs.lemmas.Bool.{Decides.nat_tests, cases_lt, le-leb, lt-leb}
use Rattle.std.proofs.Math.ListN.{get_or-eq_default}
use Rattle.std.proofs.Math.Nat.{pow-le-pow_right, pow-suc, mul_assoc, mul-add-div_right, div-eq_of_lt}
use Rattle.std.proofs.lemmas.Nat.{pow_pos}
use Rattle.qr_matrix.specs.{Grid.{Grid, colour}, Raster.is_dark_at}
use Rattle.qr_images.specs.Image.{bit, byte_of}
use Rattle.qr_images.specs.Steps.Pixels.{is_dark_in}

-- the margin above is light
pub dark_above : (margin y x : ℕ) (g : Grid) → y < margin → is_dark_at margin g y x ≡ false
unfolding is_dark_at
dark_above margin y x g a = grind (arith, nat_tests)

-- the margin below is light
pub dark_below : (margin y x : ℕ) (g : Grid) → margin + g.side ≤ y → is_dark_at margin g y x ≡ false
unfolding is_dark_at
dark_below margin y x g a = grind (arith, nat_tests)

-- the margin to the left is light
pub dark_left : (margin y x : ℕ) (g : Grid) → x < margin → is_dark_at margin g y x ≡ false
unfolding is_dark_at
dark_left margin y x g a = grind (arith, nat_tests)

-- the margin to the right is light
pub dark_right : (margin y x : ℕ) (g : Grid) → margin + g.side ≤ x → is_dark_at margin g y x ≡ false
unfolding is_dark_at
dark_right margin y x g a = grind (arith, nat_tests)

-- a module of the square has its colour
pub dark_inside : (margin y x : ℕ) (g : Grid) → margin ≤ y → y < margin + g.side → margin ≤ x → x < margin + g.side
    → is_dark_at margin g y x ≡ colour g (y - margin) (x - margin)
unfolding is_dark_at
dark_inside margin y x g a b c d = grind (arith, nat_tests)

-- ---- the modules of a row between its margins

-- a row without modules is light
pub none-in : (margin x : ℕ) → is_dark_in margin [] x ≡ false
unfolding is_dark_in
none-in margin x = grind (arith, nat_tests)

out-of-margin : (margin x : ℕ) (cells : List ℕ) → margin ≤ x → is_dark_in margin cells x ≡ not (eqb (get_or cells (x - margin) 0) 0)
unfolding is_dark_in
out-of-margin margin x cells l = rw (le-leb margin x l) refl

in-margin : (margin x : ℕ) (cells : List ℕ) → x < margin → is_dark_in margin cells x ≡ false
unfolding is_dark_in
in-margin margin x cells l = rw (lt-leb margin x l) refl

-- after its modules a row is light
past-cells : (margin x : ℕ) (cells : List ℕ) → margin ≤ x → length cells ≤ x - margin → is_dark_in margin cells x ≡ false
past-cells margin x cells l m = out-of-margin margin x cells l ∙ rw (get_or-eq_default cells 0 {n = x - margin} m) refl

-- a row of the square
pub row-in : (margin y : ℕ) (g : Grid) (cells : List ℕ) → margin ≤ y → y < margin + g.side → length cells ≡ g.side
    → ((x : ℕ) → x < g.side → not (eqb (get_or cells x 0) 0) ≡ colour g (y - margin) x) → (x : ℕ) → is_dark_in margin cells x ≡ is_dark_at margin g y x
row-in margin y g cells l m e each x = elim (cases_lt x margin) [
  | inl left ↦ in-margin margin x cells left ∙ sym (dark_left margin y x g left)
  | inr on ↦ elim (cases_lt (x - margin) g.side) [
    | inl inside ↦ out-of-margin margin x cells on ∙ each (x - margin) inside ∙ sym (dark_inside margin y x g l m on (omega arith))
    | inr past ↦ past-cells margin x cells on (omega arith) ∙ sym (dark_right margin y x g (omega arith))
  ]
]

-- a column after the margin, counted from there, and one in the margin, which is then far too great
pub counted-from : (margin x : ℕ) → margin < 256 → x < 4294967296 → (x + (4294967296 - margin)) % 4294967296 < 177
    → (margin ≤ x) × ((x + (4294967296 - margin)) % 4294967296 ≡ x - margin)
counted-from margin x few small near = elim (cases_lt x margin) [
  | inl left ↦ absurd (omega arith)
  | inr on ↦ (on, omega arith)
]

-- the module of such a column
pub cell-dark : (margin x k : ℕ) (cells : List ℕ) → margin ≤ x → k ≡ x - margin → not (eqb (get_or cells k 0) 0) ≡ is_dark_in margin cells x
cell-dark margin x k cells on e = rw e (sym (out-of-margin margin x cells on))

-- a column without a module
pub cell-none : (margin x : ℕ) (cells : List ℕ) → margin < 256 → x < 4294967296 → length cells ≤ (x + (4294967296 - margin)) % 4294967296
    → is_dark_in margin cells x ≡ false
cell-none margin x cells few small far = elim (cases_lt x margin) [
  | inl left ↦ in-margin margin x cells left
  | inr on ↦ past-cells margin x cells on (omega arith)
]

-- The number whose binary digits are the first `n` of `p`
unfoldable pub digits_of : (ℕ → Bool) → ℕ → ℕ
digits_of p zero = 0
digits_of p (suc n) = digits_of p n * 2 + (if p n then 1 else 0)

-- eight digits are a byte
pub eight-digits : (p : ℕ → Bool) → digits_of p 8 ≡ byte_of p
unfolding digits_of byte_of bit
eight-digits p =
    let z : 0 * 2 + (if p 0 then 1 else 0) ≡ (if p 0 then 1 else 0) = omega arith in
    ap (λ k. ((((((k * 2 + bit (p 1)) * 2 + bit (p 2)) * 2 + bit (p 3)) * 2 + bit (p 4)) * 2 + bit (p 5)) * 2 + bit (p 6)) * 2 + bit (p 7)) z

pub no-digits : (p : ℕ → Bool) → digits_of p 0 ≡ 0
unfolding digits_of
no-digits p = refl

digits-suc : (p : ℕ → Bool) (n : ℕ) → digits_of p (suc n) ≡ digits_of p n * 2 + (if p n then 1 else 0)
unfolding digits_of
digits-suc p n = refl

digits-next : (p : ℕ → Bool) (n : ℕ) (b : Bool) → digits_of p n < 2 ^ n → digits_of p n * 2 + (if b then 1 else 0) < 2 ^ suc n
digits-next p n true l = rw (pow-suc 2 n) (omega arith)
digits-next p n false l = rw (pow-suc 2 n) (omega arith)

none-more : (d : ℕ) (b : Bool) → d ≡ d * 2 ^ 0 + (if b then 2 ^ 0 - 1 else 0)
none-more d true = omega arith
none-more d false = omega arith

one-appended : (d m : ℕ) (b : Bool) → 0 < m → (d * m + (if b then m - 1 else 0)) * 2 + (if b then 1 else 0) ≡ d * (m * 2) + (if b then m * 2 - 1 else 0)
one-appended d m true l = let e : d * (m * 2) ≡ d * m * 2 = sym (mul_assoc d m 2) in rw e (omega arith)
one-appended d m false l = let e : d * (m * 2) ≡ d * m * 2 = sym (mul_assoc d m 2) in rw e (omega arith)

-- digits have a bound
pub digits-small : (p : ℕ → Bool) (n : ℕ) → digits_of p n < 2 ^ n
unfolding digits_of
digits-small p zero = omega arith
digits-small p (suc n) = digits-next p n (p n) (digits-small p n)

-- digits of one value, appended at once
pub many-more : (p : ℕ → Bool) (b : Bool) (n t : ℕ) → ((j : ℕ) → j < t → p (n + j) ≡ b)
    → digits_of p (n + t) ≡ digits_of p n * 2 ^ t + (if b then 2 ^ t - 1 else 0)
many-more p b n zero each =
    let e : n + 0 ≡ n = omega arith in
    rw e (none-more (digits_of p n) b)
many-more p b n (suc t) each =
    let e : n + suc t ≡ suc (n + t) = omega arith in
    let less : (j : ℕ) → j < t → p (n + j) ≡ b = λ j l. each j (omega arith) in
    let here : p (n + t) ≡ b = each t (omega arith) in
    rw (e, digits-suc p (n + t), here, many-more p b n t less, pow-suc 2 t) (one-appended (digits_of p n) (2 ^ t) b (pow_pos t))

-- each of the pixels that are left of a module has its colour
pub pixels-at : (dark : ℕ → Bool) (scale start done column left : ℕ) (black : Bool) → left ≤ scale → column * scale + (scale - left) ≡ start + done
    → black ≡ dark column → (j : ℕ) → j < left → not (dark ((start + (done + j)) / scale)) ≡ not black
pixels-at dark scale start done column left black within e d j l =
    let rest = scale - left + j in
    let some : 0 < scale = omega arith in
    let low : rest / scale ≡ 0 = div-eq_of_lt (omega arith) in
    let q : (column * scale + rest) / scale ≡ column = mul-add-div_right some column rest ∙ omega arith in
    let f : start + (done + j) ≡ column * scale + rest = omega arith in
    rw (f, q, d) refl

-- eight pixels of a row of the square
pub bytes-shown : (margin row start scale : ℕ) (cells : List ℕ) (g : Grid) → ((x : ℕ) → is_dark_in margin cells x ≡ is_dark_at margin g row x)
    → byte_of (λ j. not (is_dark_in margin cells ((start + j) / scale))) ≡ byte_of (λ j. not (is_dark_at margin g row ((start + j) / scale)))
unfolding byte_of
bytes-shown margin row start scale cells g same =
    rw (
      same ((start + 0) / scale),
      same ((start + 1) / scale),
      same ((start + 2) / scale),
      same ((start + 3) / scale),
      same ((start + 4) / scale),
      same ((start + 5) / scale),
      same ((start + 6) / scale),
      same ((start + 7) / scale),
    ) refl

-- at most eight digits are a byte
pub digits-in : (p : ℕ → Bool) (n byte : ℕ) → n ≤ 8 → byte ≡ digits_of p n → byte < 256
digits-in p n byte few e =
    let some : 0 < 2 = omega arith in
    let top : 2 ^ n ≤ 2 ^ 8 = pow-le-pow_right some few in
    let small = digits-small p n in
    omega arith

-- ---- bits inverted

bit-not : (b : Bool) → bit (not b) ≡ 1 - bit b
unfolding bit
bit-not true = refl
bit-not false = refl

bit-low : (b : Bool) → bit b ≤ 1
unfolding bit
bit-low true = omega arith
bit-low false = omega arith

turned : (a b c d e f g h a2 b2 c2 d2 e2 f2 g2 h2 : ℕ) → a2 + a ≡ 1 → b2 + b ≡ 1 → c2 + c ≡ 1 → d2 + d ≡ 1 → e2 + e ≡ 1 → f2 + f ≡ 1 → g2 + g ≡ 1 → h2 + h ≡ 1
    → 255 - (((((((a2 * 2 + b2) * 2 + c2) * 2 + d2) * 2 + e2) * 2 + f2) * 2 + g2) * 2 + h2)
    ≡ ((((((a * 2 + b) * 2 + c) * 2 + d) * 2 + e) * 2 + f) * 2 + g) * 2 + h
turned a b c d e f g h a2 b2 c2 d2 e2 f2 g2 h2 la lb lc ld le lf lg lh = omega arith

eight : (a b c d e f g h : ℕ) → a ≤ 1 → b ≤ 1 → c ≤ 1 → d ≤ 1 → e ≤ 1 → f ≤ 1 → g ≤ 1 → h ≤ 1
    → 255 - ((((((((1 - a) * 2 + (1 - b)) * 2 + (1 - c)) * 2 + (1 - d)) * 2 + (1 - e)) * 2 + (1 - f)) * 2 + (1 - g)) * 2 + (1 - h))
    ≡ ((((((a * 2 + b) * 2 + c) * 2 + d) * 2 + e) * 2 + f) * 2 + g) * 2 + h
eight a b c d e f g h la lb lc ld le lf lg lh =
    let a1 : 1 - a + a ≡ 1 = omega arith in
    let b1 : 1 - b + b ≡ 1 = omega arith in
    let c1 : 1 - c + c ≡ 1 = omega arith in
    let d1 : 1 - d + d ≡ 1 = omega arith in
    let e1 : 1 - e + e ≡ 1 = omega arith in
    let f1 : 1 - f + f ≡ 1 = omega arith in
    let g1 : 1 - g + g ≡ 1 = omega arith in
    let h1 : 1 - h + h ≡ 1 = omega arith in
    turned a b c d e f g h (1 - a) (1 - b) (1 - c) (1 - d) (1 - e) (1 - f) (1 - g) (1 - h) a1 b1 c1 d1 e1 f1 g1 h1

-- a byte with all its bits inverted
pub byte-not : (p : ℕ → Bool) → 255 - byte_of (λ j. not (p j)) ≡ byte_of p
unfolding byte_of
byte-not p =
    rw (bit-not (p 0), bit-not (p 1), bit-not (p 2), bit-not (p 3), bit-not (p 4), bit-not (p 5), bit-not (p 6), bit-not (p 7))
    (eight (bit (p 0)) (bit (p 1)) (bit (p 2)) (bit (p 3)) (bit (p 4)) (bit (p 5)) (bit (p 6)) (bit (p 7))
    (bit-low (p 0)) (bit-low (p 1)) (bit-low (p 2)) (bit-low (p 3)) (bit-low (p 4)) (bit-low (p 5)) (bit-low (p 6)) (bit-low (p 7)))
