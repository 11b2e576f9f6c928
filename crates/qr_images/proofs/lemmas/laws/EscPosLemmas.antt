-- Commands of ESC/POS are read back.
use Rattle.std.proofs.Common.{◌≡◌, ℕ, zero, suc, ◌+◌, ◌-◌, ◌*◌, ◌/◌, ◌%◌, ◌<◌, ◌≤◌, refl, sym, ap, ◌∙◌, arith, List, [], ◌∷◌, ◌++◌, true, eqb, leb, length, take, drop, min, append_assoc, append-nil, length-append, Option, Some, None}
use Rattle.std.proofs.lemmas.Bool.{eq-eqb, le-leb}
use Rattle.std.proofs.Math.Nat.{mul-div_cancel}
use Rattle.qr_matrix.specs.Grid.{Grid}
use Rattle.qr_images.specs.Bits.{◌>>=◌}
use Rattle.qr_images.specs.BitmapLines.{toned_line, toned_lines}
use Rattle.qr_images.specs.EscPos.{low_first, print, printed}
use Rattle.qr_images.specs.Image.{black_line, black_lines, image_width, joined_below, line_length}
use Rattle.qr_images.specs.Png.{same}
use Rattle.qr_images.specs.PrinterLaws.{ReceiptsAreReadBack}
use Rattle.qr_images.specs.Printing.{band, band_count, band_head, escpos_file}
use Rattle.qr_images.specs.declared.image.ImageSettings.{ImageSettings}
use Rattle.qr_images.proofs.lemmas.lines.{joined-add, joined-all, joined-alike, joined-next, joined-none, joined-suc}
use Rattle.qr_images.proofs.lemmas.laws.{BitmapLemmas.lines-length, DotLemmas.{printable-is, shows-in-bytes, toned-lines-length}, FileLemmas.{drop-own, take-own}, LawLemmas.width-in}

-- ---- results

bind-same : (o : Option (List ℕ)) → o ≡ (o >>= λ l. Some ([] ++ l))
bind-same None = refl
bind-same (Some l) = refl

bind-twice : (o : Option (List ℕ)) (x y : List ℕ) → ((o >>= λ l. Some (y ++ l)) >>= λ l. Some (x ++ l)) ≡ (o >>= λ l. Some ((x ++ y) ++ l))
bind-twice None x y = refl
bind-twice (Some l) x y = ap Some (sym (append_assoc x y l))

-- ---- bands

printed-band : (m stride count : ℕ) (body rest : List ℕ) → 1 ≤ count → count ≤ 2303 → length body ≡ count * stride
    → printed (suc m) stride ((band_head stride count ++ body) ++ rest) ≡ (printed m stride rest >>= λ l. Some (body ++ l))
unfolding printed band_head same
printed-band m stride count body rest some most long =
    let wide : stride % 256 + 256 * (stride / 256) ≡ stride = omega arith in
    let high : count % 256 + 256 * (count / 256) ≡ count = omega arith in
    let own : eqb stride stride ≡ true = eq-eqb stride stride refl in
    let least : leb 1 count ≡ true = le-leb _ _ some in
    let bound : leb count 2303 ≡ true = le-leb _ _ most in
    let fits : leb (8 + count * stride) (suc (suc (suc (suc (suc (suc (suc (suc (length (body ++ rest)))))))))) ≡ true = le-leb _ _ (omega (arith, length-append body rest, long)) in
    let taken : take (count * stride) (body ++ rest) ≡ body = take-own body rest (count * stride) (sym long) in
    let left : drop (8 + count * stride) (0x1D ∷ 0x76 ∷ 0x30 ∷ 0 ∷ stride % 256 ∷ stride / 256 ∷ count % 256 ∷ count / 256 ∷ (body ++ rest)) ≡ rest =
    drop-own (0x1D ∷ 0x76 ∷ 0x30 ∷ 0 ∷ stride % 256 ∷ stride / 256 ∷ count % 256 ∷ count / 256 ∷ body) rest (8 + count * stride) (omega (arith, long)) in
    rw (wide, high, own, least, bound, fits, left, taken) refl

printed-bands : (s : ImageSettings) (g : Grid) (n m : ℕ) (rest : List ℕ) → 255 * n < image_width s g + 255
    → printed (n + m) (line_length s g) (joined_below n (λ k. band s g (255 * k) (band_count s g k)) ++ rest)
    ≡ (printed m (line_length s g) rest >>= λ l. Some (joined_below n (λ k. toned_lines true s g (255 * k) (band_count s g k)) ++ l))
unfolding joined_below band
printed-bands s g zero m rest few = let e : 0 + m ≡ m = omega arith in rw e (bind-same (printed m (line_length s g) rest))
printed-bands s g (suc n) m rest few =
    let e : suc n + m ≡ n + suc m = omega arith in
    let body = toned_lines true s g (255 * n) (band_count s g n) in
    let before = joined_below n (λ k. toned_lines true s g (255 * k) (band_count s g k)) in
    let first = printed-bands s g n (suc m) (band s g (255 * n) (band_count s g n) ++ rest) (omega arith) in
    let last = printed-band m (line_length s g) (band_count s g n) body rest (omega arith) (omega arith) (toned-lines-length true s g (255 * n) (band_count s g n)) in
    rw (e, append_assoc (joined_below n (λ k. band s g (255 * k) (band_count s g k))) (band s g (255 * n) (band_count s g n)) rest)
    (first ∙ ap (λ (o : Option (List ℕ)). o >>= λ l. Some (before ++ l)) last ∙ bind-twice (printed m (line_length s g) rest) before body)

-- ---- the lines of all bands

band-lines : (s : ImageSettings) (g : Grid) (first count : ℕ) → toned_lines true s g first count ≡ joined_below count (λ j. black_line s g ((first + j) / s.scale))
unfolding toned_lines toned_line black_line
band-lines s g first count = refl

bands-lines : (s : ImageSettings) (g : Grid) (n : ℕ)
    → joined_below n (λ k. toned_lines true s g (255 * k) (band_count s g k)) ≡ joined_below (min (255 * n) (image_width s g)) (λ y. black_line s g (y / s.scale))
bands-lines s g zero =
    let e : min (255 * 0) (image_width s g) ≡ 0 = omega arith in
    rw (e, joined-none (λ (k : ℕ). toned_lines true s g (255 * k) (band_count s g k)), joined-none (λ (y : ℕ). black_line s g (y / s.scale))) refl
bands-lines s g (suc n) =
    let a = min (255 * n) (image_width s g) in
    let b = band_count s g n in
    let e : min (255 * suc n) (image_width s g) ≡ a + b = omega arith in
    let each = λ (j : ℕ) (l : j < b). let i : 255 * n + j ≡ a + j = omega arith in ap (λ y. black_line s g (y / s.scale)) i in
    let last = band-lines s g (255 * n) b ∙ joined-alike b (λ j. black_line s g ((255 * n + j) / s.scale)) (λ j. black_line s g ((a + j) / s.scale)) each in
    rw (e, joined-suc n (λ (k : ℕ). toned_lines true s g (255 * k) (band_count s g k)), joined-add a b (λ y. black_line s g (y / s.scale)), bands-lines s g n, last) refl

-- ---- the file

longer : (n len : ℕ) (f : ℕ → List ℕ) → ((k : ℕ) → len ≤ length (f k)) → n * len ≤ length (joined_below n f)
unfolding joined_below
longer zero len f each = omega arith
longer (suc n) len f each =
    let e : suc n * len ≡ n * len + len = grind arith in
    omega (arith, length-append (joined_below n f) (f n), longer n len f each, each n)

band-long : (s : ImageSettings) (g : Grid) (first count : ℕ) → 2 ≤ length (band s g first count)
unfolding band band_head
band-long s g first count = omega arith

first-stride : (s : ImageSettings) (g : Grid) (first count : ℕ) (rest : List ℕ) → low_first (drop 4 (band s g first count ++ rest)) ≡ line_length s g
unfolding band band_head
first-stride s g first count rest = omega arith

file-stride : (s : ImageSettings) (g : Grid) → 1 ≤ image_width s g → low_first (drop 4 (escpos_file s g)) ≡ line_length s g
unfolding escpos_file
file-stride s g some =
    let f = λ (k : ℕ). band s g (255 * k) (band_count s g k) in
    let n = (image_width s g + 254) / 255 in
    rw (joined-all f n ∙ joined-next f 0 n (omega arith)) (first-stride s g (255 * 0) (band_count s g 0) (joined_below (n - (0 + 1)) (λ j. f (0 + 1 + j))))

printed-end : (m stride : ℕ) (lines : List ℕ) → (printed (suc m) stride [] >>= λ l. Some (lines ++ l)) ≡ Some lines
unfolding printed
printed-end m stride lines = ap Some (append-nil lines)

printed-file : (s : ImageSettings) (g : Grid) → 1 ≤ image_width s g → printed (length (escpos_file s g)) (line_length s g) (escpos_file s g) ≡ Some (black_lines s g)
unfolding escpos_file black_lines
printed-file s g some =
    let n = (image_width s g + 254) / 255 in
    let f = λ (k : ℕ). band s g (255 * k) (band_count s g k) in
    let file = joined_below n f in
    let m = length file - n - 1 in
    let long = longer n 2 f (λ k. band-long s g (255 * k) (band_count s g k)) in
    let e : length file ≡ n + suc m = omega arith in
    let w : min (255 * n) (image_width s g) ≡ image_width s g = omega arith in
    let all = rw append-nil at (printed-bands s g n (suc m) [] (omega arith)) in
    let lines = bands-lines s g n in
    rw e (all ∙ printed-end m (line_length s g) (joined_below n (λ k. toned_lines true s g (255 * k) (band_count s g k))) ∙ ap Some (rw w at lines))

pub receipts-read : ReceiptsAreReadBack
unfolding print
receipts-read s g p =
    let w = width-in s g (printable-is s g p) in
    let some : leb 1 (line_length s g) ≡ true = le-leb _ _ (omega (arith, w.0)) in
    let pos : 0 < line_length s g = omega (arith, w.0) in
    let height : length (black_lines s g) / line_length s g ≡ image_width s g = ap (λ n. n / line_length s g) (lines-length s g) ∙ mul-div_cancel (image_width s g) pos in
    let whole : print (escpos_file s g) ≡ Some (record { width = 8 * line_length s g; height = image_width s g; lines = black_lines s g }) =
    rw (file-stride s g w.0, some, printed-file s g w.0, height) refl in
    (_, whole, shows-in-bytes s g p.some)
