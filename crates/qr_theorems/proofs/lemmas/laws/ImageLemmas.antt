-- The square of a symbol is found in the picture of its file.
use Rattle.std.proofs.Common.{◌≡◌, ℕ, ◌+◌, ◌-◌, ◌*◌, ◌/◌, ◌^◌, ◌<◌, ◌≤◌, refl, sym, ap, ◌∙◌, arith, Bool, true, false, not, cond, eqb, List, Option, Some, ◌&&◌}
use Rattle.std.proofs.lemmas.Bool.{Decides.nat_tests, eq-eqb}
use Rattle.std.proofs.Math.Nat.{mul-le-mul_right, mul-div_cancel}
use Rattle.qr_layout.specs.{Version.side_of, declared.level.Level.Level}
use Rattle.qr_bits.specs.declared.{interpretation.Interpretation.Interpretation, modes.Rule.Rule, stream.Header.Header}
use Rattle.qr_bits.specs.Parsing.{Content}
use Rattle.qr_matrix.{proofs.Facts.{colour-square, square-same}, specs.{Grid.{Grid, colour, square}, Raster.{is_dark_at, raster_width}}}
use Rattle.qr_symbol.specs.{Encoding.IsSymbolAt, Reading.{IsReading, interpreted_content}, Symbol.colour_of}
use Rattle.qr_images.specs.{Laws.{FilesAreReadBack, Shows, dark_of, light_of}, Png.{Colour, Picture, is_colour, picture, pixel}, Writing.png_file, declared.image.ImageSettings.ImageSettings}
use Rattle.qr_theorems.specs.Images.{square_in}

colour-same : (c : Colour) → is_colour c c ≡ true
colour-same c = rw (eq-eqb c.red c.red refl, eq-eqb c.green c.green refl, eq-eqb c.blue c.blue refl, eq-eqb c.opacity c.opacity refl) refl

-- what is not light is dark
dark-told : (b : Bool) (dark light : Colour) → is_colour dark light ≡ false → not (is_colour (cond b dark light) light) ≡ b
dark-told true dark light e = ap not e
dark-told false dark light e = ap not (colour-same light)

-- a module of the square, in the raster
inside : (margin row col : ℕ) (g : Grid) → row < g.side → col < g.side → is_dark_at margin g (margin + row) (margin + col) ≡ colour g row col
unfolding is_dark_at
inside margin row col g l m =
    let r : margin + row - margin ≡ row = omega arith in
    let c : margin + col - margin ≡ col = omega arith in
    rw (r, c) (grind (arith, nat_tests))

-- the pixel at the upper left of a module
place-in : (margin n scale row : ℕ) → 1 ≤ scale → row < n → (margin + row) * scale < (2 * margin + n) * scale
place-in margin n scale row some l =
    let up : (margin + row + 1) * scale ≤ (2 * margin + n) * scale = mul-le-mul_right scale (omega arith) in
    omega arith

module-shown : (margin scale per n : ℕ) (dark light : Colour) (f : ℕ → ℕ → Bool) (p : Picture) → 1 ≤ scale → is_colour dark light ≡ false → Shows margin (square n f) scale per dark light p
    → (row col : ℕ) → row < n → col < n → not (is_colour (pixel p ((margin + row) * scale) ((margin + col) * scale)) light) ≡ f row col
module-shown margin scale per n dark light f p some differ shows row col l m =
    let pos : 0 < scale = omega arith in
    let y : (margin + row) * scale / scale ≡ margin + row = mul-div_cancel (margin + row) pos in
    let x : (margin + col) * scale / scale ≡ margin + col = mul-div_cancel (margin + col) pos in
    let down : (margin + row) * scale < p.height = rw shows.height (place-in margin n scale row some l) in
    let across : (margin + col) * scale < p.width = rw shows.width (place-in margin n scale col some m) in
    let shown = shows.pixels ((margin + row) * scale) ((margin + col) * scale) down across in
    rw (shown, y, x, inside margin row col (square n f) l m, colour-square n f row col l m) (dark-told (f row col) dark light differ)

-- the square in the picture of a square
square-shown : (margin scale per n : ℕ) (dark light : Colour) (f : ℕ → ℕ → Bool) (p : Picture) → 1 ≤ scale → is_colour dark light ≡ false → Shows margin (square n f) scale per dark light p
    → square_in margin scale light p ≡ square n f
square-shown margin scale per n dark light f p some differ shows =
    let pos : 0 < scale = omega arith in
    let wide : p.width / scale ≡ 2 * margin + n = ap (λ w. w / scale) shows.width ∙ mul-div_cancel (2 * margin + n) pos in
    let side : p.width / scale - 2 * margin ≡ n = omega (arith, wide) in
    rw side (square-same n (λ row col. not (is_colour (pixel p ((margin + row) * scale) ((margin + col) * scale)) light)) f
    (module-shown margin scale per n dark light f p some differ shows))

square-found : (margin scale per n : ℕ) (dark light : Colour) (f : ℕ → ℕ → Bool) (g : Grid) (p : Picture) → g ≡ square n f → 1 ≤ scale → is_colour dark light ≡ false
    → Shows margin g scale per dark light p → square_in margin scale light p ≡ g
square-found margin scale per n dark light f g p e some differ shows = rw e (square-shown margin scale per n dark light f p some differ (rw e at shows))

-- from the file to the input
pub image-read : (v : ℕ) (l : Level) (rule : Rule) (i : Interpretation) (x : List ℕ) (h : Option Header) (mask : ℕ) (g : Grid) (o : ImageSettings)
    → FilesAreReadBack → (s : IsSymbolAt v l rule i x h mask g) → 1 ≤ o.scale → o.scale ≤ 100 → o.margin ≤ 100 → o.pixels_a_metre < 2 ^ 31
    → is_colour (dark_of o.colours) (light_of o.colours) ≡ false → 1 ≤ g.side → g.side ≤ 177 → IsReading g (interpreted_content i h s.segments x)
    → (p : Picture) × (picture (png_file o g) ≡ Some p) × IsReading (square_in o.margin o.scale (light_of o.colours) p) (interpreted_content i h s.segments x)
image-read v l rule i x h mask g o law s some scale margin metre differ least most read =
    let found = law o g some scale margin metre least most in
    let same = square-found o.margin o.scale o.pixels_a_metre (side_of v) (dark_of o.colours) (light_of o.colours) (colour_of v l mask s.codewords) g found.0 s.drawn some differ found.2 in
    (found.0, found.1, rw same read)
