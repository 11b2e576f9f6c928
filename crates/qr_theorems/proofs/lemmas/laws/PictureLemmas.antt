-- The picture of the file of a symbol is a clean picture.
use Rattle.std.proofs.Common.{◌≡◌, ◌≢◌, ℕ, ◌+◌, ◌-◌, ◌*◌, ◌/◌, ◌%◌, ◌^◌, ◌<◌, ◌≤◌, refl, sym, ap, subst, ◌∙◌, arith, Bool, true, false, not, min, max, cond, eqb, leb, ltb, List, Option, Some, ◌&&◌, ◌||◌, inl, inr}
use Rattle.std.proofs.lemmas.{Bool.{cases_Bool, cases_lt}, Bool.Decides.{nat_tests}, Nat.{div_below, div-add-mod', div-mul-add, le-div, mod-mul-add, mod_below}}
use Rattle.std.proofs.Math.Nat.{mul-le-mul_right}
use Rattle.qr_layout.specs.{Region.ring_of, Role.{finder_ring, pattern_colour, role_of}, Version.side_of, declared.level.Level.Level}
use Rattle.qr_bits.specs.declared.{interpretation.Interpretation.Interpretation, modes.Rule.Rule, stream.Header.Header}
use Rattle.qr_matrix.{proofs.Facts.{colour-square, square-same}, specs.{Grid.{Grid, IsSquare, colour, square}, Raster.{is_dark_at, raster_width}}}
use Rattle.qr_symbol.specs.{Encoding.IsSymbolAt, Symbol.{colour_of, grid_of}}
use Rattle.qr_images.specs.{Laws.{FilesAreReadBack, Shows, dark_of, light_of}, Png.{Colour, Picture, picture, pixel}, Writing.png_file, declared.image.ImageSettings.ImageSettings}
use Rattle.qr_pictures.specs.{Clean.IsCleanPicture, Finders.{HasFinder, HasFinders}, Pixels.{IsDrawing, IsFrameIn, Pixels, drawn_grey, grey, is_inside}, Turns.turned}
use Rattle.qr_pictures.specs.declared.{clean.CleanSquare.CleanSquare, frame.Frame.Frame, turn.Turn.TheVariants.Upright}
use Rattle.qr_theorems.specs.Pictures.{HasPixelsOf}

-- ---- the finder patterns of a symbol

-- a module in ring 0 to 4 of the nearest finder pattern
ring-colour : (v mask : ℕ) (l : Level) (cw : List ℕ) (r c : ℕ) → finder_ring (side_of v) r c ≤ 4
    → colour_of v l mask cw r c ≡ not (eqb (finder_ring (side_of v) r c) 2 || eqb (finder_ring (side_of v) r c) 4)
unfolding colour_of role_of pattern_colour
ring-colour v mask l cw r c near = grind (arith, nat_tests)

near-top-left : (s r c : ℕ) → 21 ≤ s → r < s → c < s → ring_of 3 3 r c ≤ 4 → finder_ring s r c ≡ ring_of 3 3 r c
near-top-left s r c some l m near = omega arith

near-top-right : (s r c : ℕ) → 21 ≤ s → r < s → c < s → ring_of 3 (s - 4) r c ≤ 4 → finder_ring s r c ≡ ring_of 3 (s - 4) r c
near-top-right s r c some l m near = omega arith

near-bottom-left : (s r c : ℕ) → 21 ≤ s → r < s → c < s → ring_of (s - 4) 3 r c ≤ 4 → finder_ring s r c ≡ ring_of (s - 4) 3 r c
near-bottom-left s r c some l m near = omega arith

finder-at : (v mask : ℕ) (l : Level) (cw : List ℕ) (a b : ℕ) → ((r c : ℕ) → r < side_of v → c < side_of v → ring_of a b r c ≤ 4 → finder_ring (side_of v) r c ≡ ring_of a b r c) → HasFinder (side_of v) (colour (grid_of v l mask cw)) a b
finder-at v mask l cw a b is =
    record {
      rings = λ r c lr lc near.
          let e = is r c lr lc near in
          let le : finder_ring (side_of v) r c ≤ 4 = omega (arith, e) in
          colour-square (side_of v) (colour_of v l mask cw) r c lr lc ∙ ring-colour v mask l cw r c le ∙ ap (λ z. not (eqb z 2 || eqb z 4)) e;
    }

symbol-finders : (v mask : ℕ) (l : Level) (cw : List ℕ) → 1 ≤ v → HasFinders (side_of v) (colour (grid_of v l mask cw))
symbol-finders v mask l cw some =
    let s : 21 ≤ side_of v = omega arith in
    record {
      top_left = finder-at v mask l cw 3 3 (λ r c a b near. near-top-left (side_of v) r c s a b near);
      top_right = finder-at v mask l cw 3 (side_of v - 4) (λ r c a b near. near-top-right (side_of v) r c s a b near);
      bottom_left = finder-at v mask l cw (side_of v - 4) 3 (λ r c a b near. near-bottom-left (side_of v) r c s a b near);
    }

-- ---- the raster of a square as the drawing of a square

-- a coordinate in the square
inner : (m s y : ℕ) → 1 ≤ s → m * s ≤ y → (m ≤ y / s) × ((y - m * s) / s ≡ y / s - m)
inner m s y some l =
    let pos : 0 < s = omega arith in
    let le = le-div m y s pos l in
    let whole = div-add-mod' y s in
    let small = mod_below y s pos in
    let cut : y / s * s ≡ (y / s - m) * s + m * s = ap (λ z. z * s) (let e : y / s ≡ y / s - m + m = omega arith in e) ∙ omega arith in
    let e : y - m * s ≡ (y / s - m) * s + y % s = omega arith in
    (le, ap (λ z. z / s) e ∙ div-mul-add (y / s - m) s (y % s) small)

upper : (m n s y : ℕ) → 1 ≤ s → y < m * s + n * s → y / s < m + n
upper m n s y some l = div_below y s (m + n) (omega arith) (let e : (m + n) * s ≡ m * s + n * s = omega arith in omega arith)

lower : (m s y : ℕ) → 1 ≤ s → y < m * s → y / s < m
lower m s y some l = div_below y s m (omega arith) l

past : (m n s y : ℕ) → 1 ≤ s → m * s + n * s ≤ y → m + n ≤ y / s
past m n s y some l = le-div (m + n) y s (omega arith) (let e : (m + n) * s ≡ m * s + n * s = omega arith in omega arith)

-- a module of the raster outside of the square
dark-above : (m y x : ℕ) (g : Grid) → y < m → is_dark_at m g y x ≡ false
unfolding is_dark_at
dark-above m y x g l = grind (arith, nat_tests)

dark-below : (m y x : ℕ) (g : Grid) → m + g.side ≤ y → is_dark_at m g y x ≡ false
unfolding is_dark_at
dark-below m y x g l = grind (arith, nat_tests)

dark-before : (m y x : ℕ) (g : Grid) → x < m → is_dark_at m g y x ≡ false
unfolding is_dark_at
dark-before m y x g l = grind (arith, nat_tests)

dark-after : (m y x : ℕ) (g : Grid) → m + g.side ≤ x → is_dark_at m g y x ≡ false
unfolding is_dark_at
dark-after m y x g l = grind (arith, nat_tests)

dark-inside : (m y x : ℕ) (g : Grid) → m ≤ y → y < m + g.side → m ≤ x → x < m + g.side → is_dark_at m g y x ≡ colour g (y - m) (x - m)
unfolding is_dark_at
dark-inside m y x g a b c d = grind (arith, nat_tests)

-- the frame of a square in its raster, in two greys
abbrev pub frame-of : (side margin scale dark light : ℕ) → Frame
frame-of side margin scale dark light = record { side = side; scale = scale; left = margin * scale; top = margin * scale; dark = dark; light = light }

grey-outside : (f : Frame) (dark : ℕ → ℕ → Bool) (y x : ℕ) → is_inside f y x ≡ false → drawn_grey f dark y x ≡ f.light
unfolding drawn_grey
grey-outside f dark y x e = ap (λ b. cond (b && dark ((y - f.top) / f.scale) ((x - f.left) / f.scale)) f.dark f.light) e

grey-inside : (f : Frame) (dark : ℕ → ℕ → Bool) (y x : ℕ) → is_inside f y x ≡ true → drawn_grey f dark y x ≡ cond (dark ((y - f.top) / f.scale) ((x - f.left) / f.scale)) f.dark f.light
unfolding drawn_grey
grey-inside f dark y x e = ap (λ b. cond (b && dark ((y - f.top) / f.scale) ((x - f.left) / f.scale)) f.dark f.light) e

raster-drawn : (m s dark light y x : ℕ) (g : Grid) → 1 ≤ s → cond (is_dark_at m g (y / s) (x / s)) dark light ≡ drawn_grey (frame-of g.side m s dark light) (colour g) y x
raster-drawn m s dark light y x g some =
    let f : Frame = frame-of g.side m s dark light in
    elim (cases_lt y (m * s)) [
      | inl l ↦ ap (λ b. cond b dark light) (dark-above m (y / s) (x / s) g (lower m s y some l)) ∙ sym (grey-outside f (colour g) y x (grind (arith, nat_tests)))
      | inr top ↦ elim (cases_lt x (m * s)) [
        | inl l ↦ ap (λ b. cond b dark light) (dark-before m (y / s) (x / s) g (lower m s x some l)) ∙ sym (grey-outside f (colour g) y x (grind (arith, nat_tests)))
        | inr left ↦ elim (cases_lt y (m * s + g.side * s)) [
          | inr l ↦ ap (λ b. cond b dark light) (dark-below m (y / s) (x / s) g (past m g.side s y some l)) ∙ sym (grey-outside f (colour g) y x (grind (arith, nat_tests)))
          | inl bottom ↦ elim (cases_lt x (m * s + g.side * s)) [
            | inr l ↦ ap (λ b. cond b dark light) (dark-after m (y / s) (x / s) g (past m g.side s x some l)) ∙ sym (grey-outside f (colour g) y x (grind (arith, nat_tests)))
            | inl right ↦
                let r = inner m s y some top in
                let c = inner m s x some left in
                ap (λ b. cond b dark light) (dark-inside m (y / s) (x / s) g r.0 (upper m g.side s y some bottom) c.0 (upper m g.side s x some right)
                ∙ ap (λ z. colour g z (x / s - m)) (sym r.1) ∙ ap (λ z. colour g ((y - m * s) / s) z) (sym c.1))
                ∙ sym (grey-inside f (colour g) y x (grind (arith, nat_tests)))
          ]
        ]
      ]
    ]

-- the side of a version
side-step : (v : ℕ) → side_of v % 4 ≡ 1
side-step v = ap (λ z. z % 4) (let e : side_of v ≡ (4 + v) * 4 + 1 = omega arith in e) ∙ mod-mul-add (4 + v) 4 1 (omega arith)

grey-of : (as_grey : Colour → ℕ) (b : Bool) (dark light : Colour) → as_grey (cond b dark light) ≡ cond b (as_grey dark) (as_grey light)
grey-of as_grey true dark light = refl
grey-of as_grey false dark light = refl

-- the square of a symbol of side `n`, drawn upright with these colours
drawn-clean : (n : ℕ) (colours : ℕ → ℕ → Bool) (margin scale per : ℕ) (dark light : Colour) (as_grey : Colour → ℕ) (p : Picture) (q : Pixels) → 21 ≤ n → n ≤ 177 → n % 4 ≡ 1
    → HasFinders n (colour (square n colours)) → 1 ≤ scale → Shows margin (square n colours) scale per dark light p → HasPixelsOf as_grey q p → as_grey dark ≢ as_grey light
    → IsCleanPicture q (record { frame = frame-of n margin scale (as_grey dark) (as_grey light); turn = Upright }) (square n colours)
unfolding turned
drawn-clean n colours margin scale per dark light as_grey p q least most step finders some shows same differ =
    let g : Grid = square n colours in
    let wide : margin * scale + n * scale ≤ q.width = omega (arith, same.width, shows.width) in
    let high : margin * scale + n * scale ≤ q.height = omega (arith, same.height, shows.height) in
    record {
      square = square-same n colours (colour g) (λ r c l m. sym (colour-square n colours r c l m));
      finders = finders;
      fourth = λ h. refl;
      drawing = record {
        frame = record { least = least; most = most; step = step; scaled = some; across = wide; down = high; differ = differ };
        pixels = λ y x l m.
            let down : y < p.height = omega (arith, same.height) in
            let across : x < p.width = omega (arith, same.width) in
            same.pixels y x down across ∙ ap as_grey (shows.pixels y x down across) ∙ grey-of as_grey (is_dark_at margin g (y / scale) (x / scale)) dark light
            ∙ raster-drawn margin scale (as_grey dark) (as_grey light) y x g some;
      };
    }

pub symbol-clean : (v mask : ℕ) (l : Level) (cw : List ℕ) (g : Grid) (margin scale per : ℕ) (dark light : Colour) (as_grey : Colour → ℕ) (p : Picture) (q : Pixels) → 1 ≤ v → v ≤ 40
    → g ≡ grid_of v l mask cw → 1 ≤ scale → Shows margin g scale per dark light p → HasPixelsOf as_grey q p → as_grey dark ≢ as_grey light
    → IsCleanPicture q (record { frame = frame-of (side_of v) margin scale (as_grey dark) (as_grey light); turn = Upright }) g
symbol-clean v mask l cw g margin scale per dark light as_grey p q some most e one shows same differ =
    rw e (drawn-clean (side_of v) (colour_of v l mask cw) margin scale per dark light as_grey p q (omega arith) (omega arith) (side-step v) (symbol-finders v mask l cw some) one (rw e at shows) same differ)

some-same : (p q : Picture) → Some p ≡ Some q → p ≡ q
some-same p q e = cc

-- where the square of a symbol is in the picture of its file
abbrev pub clean-at : ℕ → ImageSettings → (Colour → ℕ) → CleanSquare
clean-at v o as_grey = record { frame = frame-of (side_of v) o.margin o.scale (as_grey (dark_of o.colours)) (as_grey (light_of o.colours)); turn = Upright }

-- the pixels of the picture of a symbol's file are a clean picture of the symbol
pub picture-clean : (v : ℕ) (l : Level) (rule : Rule) (i : Interpretation) (x : List ℕ) (h : Option Header) (mask : ℕ) (g : Grid) (o : ImageSettings) (p : Picture) (as_grey : Colour → ℕ) (q : Pixels)
    → FilesAreReadBack → IsSymbolAt v l rule i x h mask g → 1 ≤ o.scale → o.scale ≤ 100 → o.margin ≤ 100 → o.pixels_a_metre < 2 ^ 31 → 1 ≤ v → v ≤ 40
    → picture (png_file o g) ≡ Some p → HasPixelsOf as_grey q p → as_grey (dark_of o.colours) ≢ as_grey (light_of o.colours) → IsCleanPicture q (clean-at v o as_grey) g
picture-clean v l rule i x h mask g o p as_grey q law s some scale margin metre least most file pixels differ =
    let side : g.side ≡ side_of v = ap (λ (k : Grid). k.side) s.drawn in
    let found = law o g some scale margin metre (omega (arith, side)) (omega (arith, side)) in
    let same : found.0 ≡ p = some-same found.0 p (sym found.1 ∙ file) in
    symbol-clean v mask l s.codewords g o.margin o.scale o.pixels_a_metre (dark_of o.colours) (light_of o.colours) as_grey p q least most s.drawn some
    (subst (λ z. Shows o.margin g o.scale o.pixels_a_metre (dark_of o.colours) (light_of o.colours) z) same found.2) pixels differ
