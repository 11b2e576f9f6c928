-- What is written of lines and of other parts of a file, one after the other.
use Rattle.std.proofs.Common.{◌≡◌, ℕ, suc, ◌+◌, ◌-◌, ◌/◌, ◌<◌, refl, ap, ◌∙◌, arith, List, ◌++◌, true, append_assoc, subst}
use Rattle.qr_devices.specs.{Device.Writer, Writing.{Stops, Writes}}
use Rattle.qr_devices.proofs.Facts.{stops-before, stops-first, writes-none, writes-on, writes-stop}
use Rattle.qr_matrix.specs.Grid.{Grid}
use Rattle.qr_images.specs.BitmapLines.{toned_line, toned_lines}
use Rattle.qr_images.specs.Image.{black_line, black_lines, image_width, joined_below}
use Rattle.qr_images.specs.declared.image.ImageSettings.{ImageSettings}
use Rattle.qr_images.proofs.lemmas.lines.{joined-add, joined-alike, joined-next, joined-none, joined-suc}

-- ---- parts, one after the other

-- before the first part nothing was written
pub put-start : (a : Writer) (i : ℕ) (h : List ℕ) (f : ℕ → List ℕ) → Writes a a i i (h ++ joined_below 0 f) h
put-start a i h f = rw joined-none (writes-none a i h)

-- one more part was written
pub put-more : (a b c : Writer) (i j l : ℕ) (h0 h1 h2 part : List ℕ) (f : ℕ → List ℕ) (k : ℕ) → part ≡ f k → Writes a b i j (h0 ++ joined_below k f) h1
    → Writes b c j l (h1 ++ part) h2 → Writes a c i l (h0 ++ joined_below (k + 1) f) h2
put-more a b c i j l h0 h1 h2 part f k here p q =
    let e : k + 1 ≡ suc k = omega arith in
    rw (e, joined-suc k f, ← here) (writes-on a b c i j l h0 h1 h2 (joined_below k f) part p q)

pub joined-split : (f : ℕ → List ℕ) (k n : ℕ) → k < n → joined_below n f ≡ joined_below k f ++ (f k ++ joined_below (n - (k + 1)) (λ j. f (k + 1 + j)))
joined-split f k n l =
    let e : n ≡ k + (n - k) = omega arith in
    ap (λ m. joined_below m f) e ∙ joined-add k (n - k) f ∙ ap (λ m. joined_below k f ++ m) (joined-next f k n l)

-- the writer failed in the next part
pub put-failed : (a b c : Writer) (i j : ℕ) (h0 h1 part : List ℕ) (f : ℕ → List ℕ) (k n : ℕ) → part ≡ f k → k < n → Writes a b i j (h0 ++ joined_below k f) h1
    → Stops b c j (h1 ++ part) → Stops a c i (h0 ++ joined_below n f)
put-failed a b c i j h0 h1 part f k n here l p q =
    let rest = joined_below (n - (k + 1)) (λ j. f (k + 1 + j)) in
    rw (joined-split f k n l, ← here) (writes-stop a b c i j h0 h1 (joined_below k f) (part ++ rest) p (stops-first b c j h1 part rest q))

-- the writer failed before the next part
pub put-failed-before : (a b c : Writer) (i j : ℕ) (h0 h1 : List ℕ) (f : ℕ → List ℕ) (k n : ℕ) → k < n → Writes a b i j (h0 ++ joined_below k f) h1
    → Stops b c j h1 → Stops a c i (h0 ++ joined_below n f)
put-failed-before a b c i j h0 h1 f k n l p q =
    put-failed a b c i j h0 h1 (f k) f k n refl l p (stops-before b c j h1 (f k) q)

-- a text was written, and the writer failed in the next
pub stops-second : (a b c : Writer) (i j : ℕ) (h0 h1 x y z : List ℕ) → Writes a b i j (h0 ++ x) h1 → Stops b c j (h1 ++ y) → Stops a c i (h0 ++ (x ++ (y ++ z)))
stops-second a b c i j h0 h1 x y z w h = writes-stop a b c i j h0 h1 x (y ++ z) w (stops-first b c j h1 y z h)

-- two texts were written, and the writer failed in the next
pub stops-third : (a b c : Writer) (i j : ℕ) (h0 h1 x y z : List ℕ) → Writes a b i j (h0 ++ (x ++ y)) h1 → Stops b c j (h1 ++ z) → Stops a c i (h0 ++ (x ++ (y ++ z)))
stops-third a b c i j h0 h1 x y z w h = subst (λ l. Stops a c i (h0 ++ l)) (append_assoc x y z) (writes-stop a b c i j h0 h1 (x ++ y) z w h)

-- three texts were written
pub writes-third : (a b c : Writer) (i j k : ℕ) (h0 h1 h2 x y z : List ℕ) → Writes a b i j (h0 ++ (x ++ y)) h1 → Writes b c j k (h1 ++ z) h2 → Writes a c i k (h0 ++ (x ++ (y ++ z))) h2
writes-third a b c i j k h0 h1 h2 x y z w h = subst (λ l. Writes a c i k (h0 ++ l) h2) (append_assoc x y z) (writes-on a b c i j k h0 h1 h2 (x ++ y) z w h)

-- ---- lines of a bitmap

-- in a format in which black is 1
pub lines-black : (s : ImageSettings) (g : Grid) → toned_lines true s g 0 (image_width s g) ≡ black_lines s g
unfolding toned_lines toned_line black_lines black_line
lines-black s g = joined-alike (image_width s g) (λ y. toned_line true s g ((0 + y) / s.scale)) (λ y. black_line s g (y / s.scale)) (λ k l. ap (λ y. black_line s g (y / s.scale)) (omega arith))
