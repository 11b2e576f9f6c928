-- The lines of a bitmap show the raster, and the dots that fill the last byte of a line are white.
use Rattle.std.proofs.Common.{◌≡◌, ℕ, zero, suc, ◌+◌, ◌-◌, ◌*◌, ◌/◌, ◌<◌, ◌≤◌, refl, ap, ◌∙◌, inl, inr, arith, List, [], ◌∷◌, Bool, false, length, map}
use Rattle.std.proofs.lemmas.Bool.{cases_lt}
use Rattle.std.proofs.lemmas.List.{map-append}
use Rattle.std.proofs.Math.Nat.{mul-le-mul_right}
use Rattle.qr_matrix.specs.{Grid.Grid, Raster.{is_dark_at, raster_width}}
use Rattle.qr_images.specs.BitmapLines.{toned, toned_line, toned_lines}
use Rattle.qr_images.specs.Image.{black_byte, black_line, black_lines, image_width, joined_below, line_length}
use Rattle.qr_images.specs.PrinterLaws.{IsPrintable, ShowsInBytes}
use Rattle.qr_images.specs.declared.image.ImageSettings.{ImageSettings}
use Rattle.qr_images.proofs.lemmas.{lines.{joined-alike, joined-none, joined-suc}, pixels.dark_right}
use Rattle.qr_images.proofs.lemmas.laws.{BitmapLemmas.black-back, LawLemmas.{IsImage, byte-in}, PixelLemmas.joined-length}

-- ---- dots

-- after `n` columns of `s` dots there is no column below `n`
column-after : (n s x : ℕ) → 1 ≤ s → n * s ≤ x → n ≤ x / s
column-after n s x some far = elim (cases_lt (x / s) n) [
  | inl lt ↦
      let le : suc (x / s) * s ≤ n * s = mul-le-mul_right s lt in
      let e : suc (x / s) * s ≡ s * (x / s) + s = grind arith in
      absurd (omega arith)
  | inr ge ↦ ge
]

pub shows-in-bytes : (s : ImageSettings) (g : Grid) → 1 ≤ s.scale
    → ShowsInBytes s.margin g s.scale (record { width = 8 * line_length s g; height = image_width s g; lines = black_lines s g })
shows-in-bytes s g some =
    let stride : (8 * line_length s g + 7) / 8 ≡ line_length s g = omega arith in
    record {
      width = refl;
      height = refl;
      dots = λ y x ly lx. rw stride (black-back s g y x ly (omega arith));
      rest = λ y x ly far lx.
          let after = column-after (raster_width s.margin g) s.scale x some far in
          rw stride (black-back s g y x ly lx ∙ dark_right s.margin (y / s.scale) (x / s.scale) g (omega arith));
    }

-- ---- bytes with their bits inverted

pub map-joined : (f : ℕ → ℕ) (n : ℕ) (h : ℕ → List ℕ) → map f (joined_below n h) ≡ joined_below n (λ k. map f (h k))
map-joined f zero h = rw (joined-none h, joined-none (λ (k : ℕ). map f (h k))) refl
map-joined f (suc n) h = rw (joined-suc n h, joined-suc n (λ (k : ℕ). map f (h k)), map-append f (joined_below n h) (h n), map-joined f n h) refl

turned-line : (s : ImageSettings) (g : Grid) (r : ℕ) → map (λ b. 255 - b) (toned_line false s g r) ≡ black_line s g r
unfolding toned_line black_line
turned-line s g r =
    let back = λ (k : ℕ) (l : k < line_length s g).
    let small = byte-in (λ j. is_dark_at s.margin g r ((8 * k + j) / s.scale)) in
    let e : 255 - (255 - black_byte s g r k) ≡ black_byte s g r k = omega arith in
    ap (λ (b : ℕ). b ∷ []) e in
    map-joined (λ b. 255 - b) (line_length s g) (λ k. (255 - black_byte s g r k) ∷ []) ∙ joined-alike (line_length s g) (λ k. (255 - (255 - black_byte s g r k)) ∷ []) (λ k. black_byte s g r k ∷ []) back

pub turned-lines : (s : ImageSettings) (g : Grid) → map (λ b. 255 - b) (toned_lines false s g 0 (image_width s g)) ≡ black_lines s g
unfolding toned_lines black_lines
turned-lines s g =
    let each = λ (y : ℕ) (l : y < image_width s g).
    let e : 0 + y ≡ y = omega arith in
    turned-line s g ((0 + y) / s.scale) ∙ ap (λ n. black_line s g (n / s.scale)) e in
    map-joined (λ b. 255 - b) (image_width s g) (λ y. toned_line false s g ((0 + y) / s.scale))
    ∙ joined-alike (image_width s g) (λ y. map (λ b. 255 - b) (toned_line false s g ((0 + y) / s.scale))) (λ y. black_line s g (y / s.scale)) each

toned-length : (black : Bool) (s : ImageSettings) (g : Grid) (r : ℕ) → length (toned_line black s g r) ≡ line_length s g
unfolding toned_line
toned-length black s g r = joined-length (line_length s g) 1 (λ k. toned black (black_byte s g r k) ∷ []) (λ k. refl) ∙ omega arith

pub toned-lines-length : (black : Bool) (s : ImageSettings) (g : Grid) (first count : ℕ) → length (toned_lines black s g first count) ≡ count * line_length s g
unfolding toned_lines
toned-lines-length black s g first count = joined-length count (line_length s g) (λ y. toned_line black s g ((first + y) / s.scale)) (λ y. toned-length black s g ((first + y) / s.scale))

-- an image that can be printed can be written
pub printable-is : (s : ImageSettings) (g : Grid) → IsPrintable s g → IsImage s g
printable-is s g p = record { some = p.some; scale = p.scale; margin = p.margin; least = p.least; most = p.most }
