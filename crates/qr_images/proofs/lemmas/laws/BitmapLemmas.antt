-- A bitmap is read back.
use Rattle.std.proofs.Common.{◌≡◌, ℕ, zero, suc, ◌+◌, ◌-◌, ◌*◌, ◌/◌, ◌%◌, ◌^◌, ◌<◌, ◌≤◌, refl, ap, ◌∙◌, inl, inr, arith, List, [], ◌∷◌, ◌++◌, true, eqb, leb, get_or, length, append_assoc, Some}
use Rattle.std.{proofs.{lemmas.Fmt.{decimal_digit, decimal_step}, lemmas.Bool.{cases_lt, eq-eqb, le-leb}}, specs.Prelude.decimal}
use Rattle.qr_matrix.specs.{Grid.Grid, Raster.{is_dark_at}}
use Rattle.qr_images.specs.Image.{black_byte, black_line, black_lines, image_width, joined_below, line_length}
use Rattle.qr_images.specs.Laws.{BitmapsAreReadBack}
use Rattle.qr_images.specs.Pbm.{bitmap, leading}
use Rattle.qr_images.specs.Png.{same}
use Rattle.qr_images.specs.Writing.{bitmap_head, pbm_file}
use Rattle.qr_images.specs.declared.image.ImageSettings.{ImageSettings}
use Rattle.qr_images.proofs.lemmas.laws.PixelLemmas.{byte-back, get-joined, joined-length}
use Rattle.qr_images.proofs.lemmas.laws.LawLemmas.{IsImage, width-in}

-- ---- numbers

leading-digit : (m d : ℕ) (rest : List ℕ) → d < 10 → leading m ((48 + d) ∷ rest) ≡ leading (m * 10 + d) rest
unfolding leading
leading-digit m d rest lt =
    let low : leb 48 (48 + d) ≡ true = le-leb _ _ (omega arith) in
    let high : leb (48 + d) 57 ≡ true = le-leb _ _ (omega arith) in
    let e : 48 + d - 48 ≡ d = omega arith in
    rw (low, high, e) refl

-- a number is read from its digits, after which something else comes
pub leading-by : (f n : ℕ) (rest : List ℕ) → n < f → n < 2 ^ 64 → leading 0 (decimal n ++ rest) ≡ leading n rest
leading-by zero n rest lt le = absurd (omega arith)
leading-by (suc f) n rest lt le = elim (cases_lt n 10) [
  | inl l ↦
      let z : 0 * 10 + n ≡ n = omega arith in
      rw (decimal_digit n l) (leading-digit 0 n rest l ∙ ap (λ k. leading k rest) z)
  | inr g ↦
      let e : n / 10 * 10 + n % 10 ≡ n = omega arith in
      rw (decimal_step n g (omega arith), append_assoc (decimal (n / 10)) ((48 + n % 10) ∷ []) rest)
      (leading-by f (n / 10) ((48 + n % 10) ∷ rest) (omega arith) (omega arith) ∙ leading-digit (n / 10) (n % 10) rest (omega arith) ∙ ap (λ k. leading k rest) e)
]

leading-space : (n : ℕ) (rest : List ℕ) → leading n (32 ∷ rest) ≡ (n, 32 ∷ rest)
unfolding leading
leading-space n rest = refl

leading-newline : (n : ℕ) (rest : List ℕ) → leading n (10 ∷ rest) ≡ (n, 10 ∷ rest)
unfolding leading
leading-newline n rest = refl

-- ---- lines

pub black-length : (s : ImageSettings) (g : Grid) (r : ℕ) → length (black_line s g r) ≡ line_length s g
unfolding black_line
black-length s g r = joined-length (line_length s g) 1 (λ k. black_byte s g r k ∷ []) (λ k. refl) ∙ omega arith

black-at : (s : ImageSettings) (g : Grid) (r k : ℕ) → k < line_length s g → get_or (black_line s g r) k 0 ≡ black_byte s g r k
unfolding black_line
black-at s g r k l =
    let e : k * 1 + 0 ≡ k = omega arith in
    let found = get-joined (line_length s g) 1 k 0 (λ k. black_byte s g r k ∷ []) (λ k. refl) l (omega arith) in
    rw e at found

-- each pixel shows its module, also those that fill the last byte of a line
pub black-back : (s : ImageSettings) (g : Grid) (y x : ℕ) → y < image_width s g → x < 8 * line_length s g
    → eqb (get_or (black_lines s g) (y * line_length s g + x / 8) 0 / 2 ^ (7 - x % 8) % 2) 1 ≡ is_dark_at s.margin g (y / s.scale) (x / s.scale)
unfolding black_lines
black-back s g y x ly lx =
    let r = y / s.scale in
    let col : x / 8 < line_length s g = omega arith in
    let here : get_or (joined_below (image_width s g) (λ y. black_line s g (y / s.scale))) (y * line_length s g + x / 8) 0 ≡ black_byte s g r (x / 8) =
    get-joined (image_width s g) (line_length s g) y (x / 8) (λ y. black_line s g (y / s.scale)) (λ j. black-length s g (j / s.scale)) ly col ∙ black-at s g r (x / 8) col in
    let low : x % 8 < 8 = omega arith in
    let back : 8 * (x / 8) + x % 8 ≡ x = omega arith in
    let pixel = byte-back (λ j. is_dark_at s.margin g r ((8 * (x / 8) + j) / s.scale)) (x % 8) low in
    rw here (pixel ∙ rw back refl)

pub lines-length : (s : ImageSettings) (g : Grid) → length (black_lines s g) ≡ image_width s g * line_length s g
unfolding black_lines
lines-length s g = joined-length (image_width s g) (line_length s g) (λ y. black_line s g (y / s.scale)) (λ j. black-length s g (j / s.scale))

-- ---- the file

bitmap-back : (w : ℕ) (lines : List ℕ) → 1 ≤ w → w ≤ 99999 → length lines ≡ w * ((w + 7) / 8)
    → bitmap (bitmap_head w ++ lines) ≡ Some (record { width = w; height = w; lines = lines })
unfolding bitmap bitmap_head same
bitmap-back w lines some most long =
    let rest : List ℕ = 32 ∷ (decimal w ++ (10 ∷ lines)) in
    let e : (decimal w ++ (32 ∷ (decimal w ++ 10 ∷ []))) ++ lines ≡ decimal w ++ rest = simp append_assoc in
    let width : leading 0 (decimal w ++ rest) ≡ (w, rest) = leading-by (suc w) w rest (omega arith) (omega arith) ∙ leading-space w (decimal w ++ (10 ∷ lines)) in
    let height : leading 0 (decimal w ++ (10 ∷ lines)) ≡ (w, 10 ∷ lines) = leading-by (suc w) w (10 ∷ lines) (omega arith) (omega arith) ∙ leading-newline w lines in
    let one : leb 1 w ≡ true = le-leb 1 w some in
    let all : eqb (length lines) (w * ((w + 7) / 8)) ≡ true = eq-eqb _ _ long in
    rw (e, width, height, one, all) refl

pub bitmaps-read : BitmapsAreReadBack
unfolding pbm_file
bitmaps-read s g some scale margin least most =
    let i : IsImage s g = record { some = some; scale = scale; margin = margin; least = least; most = most } in
    let w = width-in s g i in
    let whole = bitmap-back (image_width s g) (black_lines s g) w.0 (omega (arith, w.1)) (lines-length s g) in
    (_, whole, record { width = refl; height = refl; pixels = λ y x ly lx. black-back s g y x ly (omega arith) })
