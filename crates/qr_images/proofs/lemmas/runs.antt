-- Runs of hexadecimal digits, and what is left to write while digits are appended.
use Rattle.std.proofs.Common.{◌≡◌, ℕ, zero, suc, ◌+◌, ◌-◌, ◌/◌, ◌%◌, ◌<◌, ◌≤◌, refl, sym, ap, ◌∙◌, arith, List, [], ◌∷◌, ◌++◌, Bool, true, false, ◌&&◌, ◌||◌, eqb, ltb, append_assoc, append-nil, MatchResult, Result, Ok, Err, subst}
use Rattle.std.proofs.lemmas.Bool.{eq-eqb, lt-ltb}
use Rattle.qr_devices.specs.{Device.Writer, Writing.{Stops, Writes}, declared.pen.DrawFault.DrawFault}
use Rattle.qr_devices.proofs.Facts.{writes-none, writes-on, writes-stop}
use Rattle.qr_matrix.specs.Grid.{Grid}
use Rattle.qr_matrix.specs.Raster.{is_dark_at, raster_width}
use Rattle.qr_images.specs.Image.{black_byte, black_line, joined_below, line_length, repeated}
use Rattle.qr_images.specs.Packing.{digit_text, digits_of, first_line, has_dark_below, ones_text, run_text, runs_from, twenties_text}
use Rattle.qr_images.specs.Steps.Runs.{WentOn}
use Rattle.qr_images.specs.declared.image.ImageSettings.{ImageSettings}
use Rattle.qr_images.proofs.lemmas.{bitmap_lines.{joined-split, put-failed, put-more}, lines.{joined-none, joined-suc}, png.puts-on}

-- ---- the text of a run

pub no-twenties : (n : ℕ) (h : List ℕ) → n < 20 → h ≡ h ++ twenties_text n
no-twenties n h l = let yes : ltb n 20 ≡ true = lt-ltb n 20 l in rw (yes, append-nil) refl

pub some-twenties : (n : ℕ) (h p : List ℕ) → 20 ≤ n → p ≡ h ++ (102 + n / 20) ∷ [] → p ≡ h ++ twenties_text n
some-twenties n h p l e = let no : ltb n 20 ≡ false = search arith in rw no e

pub no-ones : (n : ℕ) (h : List ℕ) → n % 20 ≡ 0 → h ≡ h ++ ones_text n
no-ones n h l = let yes : eqb (n % 20) 0 ≡ true = eq-eqb (n % 20) 0 l in rw (yes, append-nil) refl

pub some-ones : (n : ℕ) (h p : List ℕ) → (n % 20 ≡ 0 → ⊥) → p ≡ h ++ (70 + n % 20) ∷ [] → p ≡ h ++ ones_text n
some-ones n h p l e = let no : eqb (n % 20) 0 ≡ false = search arith in rw no e

pub run-none : (d n : ℕ) (h : List ℕ) → n ≡ 0 → h ≡ h ++ run_text d n
unfolding run_text repeated
run-none d n h e = rw (e, append-nil) refl

pub run-one : (d n b : ℕ) (h p : List ℕ) → n ≡ 1 → b ≡ digit_text d → p ≡ h ++ b ∷ [] → p ≡ h ++ run_text d n
unfolding run_text repeated
run-one d n b h p e f g = rw (g, f, e) refl

pub run-two : (d n b : ℕ) (h p : List ℕ) → n ≡ 2 → b ≡ digit_text d → p ≡ h ++ b ∷ b ∷ [] → p ≡ h ++ run_text d n
unfolding run_text repeated
run-two d n b h p e f g = rw (g, f, e) refl

pub run-long : (d n b : ℕ) (h p1 p2 p3 : List ℕ) → 3 ≤ n → b ≡ digit_text d → p1 ≡ h ++ twenties_text n → p2 ≡ p1 ++ ones_text n → p3 ≡ p2 ++ b ∷ [] → p3 ≡ h ++ run_text d n
unfolding run_text
run-long d n b h p1 p2 p3 l f e1 e2 e3 =
    let no : ltb n 3 ≡ false = search arith in
    e3 ∙ ap (λ p. p ++ b ∷ []) (e2 ∙ ap (λ p. p ++ ones_text n) e1) ∙ append_assoc (h ++ twenties_text n) (ones_text n) (b ∷ []) ∙ append_assoc h (twenties_text n) (ones_text n ++ b ∷ [])
    ∙ rw (no, f) refl

-- ---- one digit more

pub run-more : (d n e : ℕ) (rest : List ℕ) → (ltb n 419 && eqb e d) ≡ true → runs_from d n (e ∷ rest) ≡ runs_from d (n + 1) rest
unfolding runs_from
run-more d n e rest h = let s : n + 1 ≡ suc n = omega arith in rw (h, s) refl

pub run-ends : (d n e : ℕ) (rest : List ℕ) → (ltb n 419 && eqb e d) ≡ false → runs_from d n (e ∷ rest) ≡ run_text d n ++ runs_from e 1 rest
unfolding runs_from
run-ends d n e rest h = rw h refl

pub runs-none : (d n : ℕ) → runs_from d n [] ≡ run_text d n
unfolding runs_from
runs-none d n = refl

-- ---- what is left to write

-- nothing was written
pub went-same : (a : Writer) (i : ℕ) (h : List ℕ) (f g : List ℕ → List ℕ) → ((rest : List ℕ) → f rest ≡ g rest) → WentOn a a i i h h f g
went-same a i h f g same = record { text = []; writes = writes-none a i h; goes = same }

-- more digits were appended
pub went-next : (a b c : Writer) (i j k : ℕ) (h0 h1 h2 : List ℕ) (f g h : List ℕ → List ℕ) (xs ys : List ℕ) → WentOn a b i j h0 h1 (λ rest. f (xs ++ rest)) g
    → WentOn b c j k h1 h2 (λ rest. g (ys ++ rest)) h → WentOn a c i k h0 h2 (λ rest. f ((xs ++ ys) ++ rest)) h
went-next a b c i j k h0 h1 h2 f g h xs ys p q = record {
  text = p.text ++ q.text;
  writes = writes-on a b c i j k h0 h1 h2 p.text q.text p.writes q.writes;
  goes = λ rest. ap f (append_assoc xs ys rest) ∙ p.goes (ys ++ rest) ∙ ap (λ l. p.text ++ l) (q.goes rest) ∙ sym (append_assoc p.text q.text (h rest));
}

-- the writer failed while more digits were appended
pub halts-next : (a b c : Writer) (i j : ℕ) (h0 h1 : List ℕ) (f g : List ℕ → List ℕ) (xs ys : List ℕ) → WentOn a b i j h0 h1 (λ rest. f (xs ++ rest)) g
    → ((rest : List ℕ) → Stops b c j (h1 ++ g (ys ++ rest))) → (rest : List ℕ) → Stops a c i (h0 ++ f (xs ++ (ys ++ rest)))
halts-next a b c i j h0 h1 f g xs ys p q rest = rw (p.goes (ys ++ rest)) (writes-stop a b c i j h0 h1 p.text (g (ys ++ rest)) p.writes (q rest))

-- a call that appends the last digits
pub went-last : {T : Type 0} (a b c : Writer) (i j k : ℕ) (h0 h1 h2 : List ℕ) (f g h : List ℕ → List ℕ) (xs ys : List ℕ) (r : Result T DrawFault) → WentOn a b i j h0 h1 (λ rest. f (xs ++ rest)) g
    → MatchResult r (λ _. WentOn b c j k h1 h2 (λ rest. g (ys ++ rest)) h) (λ _. (rest : List ℕ) → Stops b c j (h1 ++ g (ys ++ rest)))
    → MatchResult r (λ _. WentOn a c i k h0 h2 (λ rest. f ((xs ++ ys) ++ rest)) h) (λ _. (rest : List ℕ) → Stops a c i (h0 ++ f ((xs ++ ys) ++ rest)))
went-last a b c i j k h0 h1 h2 f g h xs ys (Ok v) p q = went-next a b c i j k h0 h1 h2 f g h xs ys p q
went-last a b c i j k h0 h1 h2 f g h xs ys (Err e) p q = λ rest. rw (append_assoc xs ys rest) (halts-next a b c i j h0 h1 f g xs ys p q rest)

-- the digits of one more byte were appended
pub went-more : (a b c : Writer) (i j l : ℕ) (h0 h1 h2 part : List ℕ) (f g h : List ℕ → List ℕ) (byte : ℕ → List ℕ) (k : ℕ) → part ≡ byte k
    → WentOn a b i j h0 h1 (λ rest. f (joined_below k byte ++ rest)) g → WentOn b c j l h1 h2 (λ rest. g (part ++ rest)) h
    → WentOn a c i l h0 h2 (λ rest. f (joined_below (k + 1) byte ++ rest)) h
went-more a b c i j l h0 h1 h2 part f g h byte k here p q =
    let e : joined_below (k + 1) byte ≡ joined_below k byte ++ part = ap (λ n. joined_below n byte) (omega arith) ∙ joined-suc k byte ∙ ap (λ x. joined_below k byte ++ x) (sym here) in
    subst (λ x. WentOn a c i l h0 h2 (λ rest. f (x ++ rest)) h) (sym e) (went-next a b c i j l h0 h1 h2 f g h (joined_below k byte) part p q)

-- the writer failed in the digits of a byte
pub went-failed : (a b c : Writer) (i j : ℕ) (h0 h1 part : List ℕ) (f g : List ℕ → List ℕ) (byte : ℕ → List ℕ) (k n : ℕ) → part ≡ byte k → k < n
    → WentOn a b i j h0 h1 (λ rest. f (joined_below k byte ++ rest)) g → ((rest : List ℕ) → Stops b c j (h1 ++ g (part ++ rest))) → Stops a c i (h0 ++ f (joined_below n byte))
went-failed a b c i j h0 h1 part f g byte k n here l p q =
    let rest = joined_below (n - (k + 1)) (λ j. byte (k + 1 + j)) in
    rw (joined-split byte k n l, ← here) (halts-next a b c i j h0 h1 f g (joined_below k byte) part p q rest)

-- the last run
pub went-out : {T : Type 0} (a b c : Writer) (i j k : ℕ) (h0 h1 h2 last : List ℕ) (f g : List ℕ → List ℕ) (xs : List ℕ) (r : Result T DrawFault) → WentOn a b i j h0 h1 (λ rest. f (xs ++ rest)) g
    → g [] ≡ last → MatchResult r (λ _. Writes b c j k (h1 ++ last) h2) (λ _. Stops b c j (h1 ++ last))
    → MatchResult r (λ _. Writes a c i k (h0 ++ f xs) h2) (λ _. Stops a c i (h0 ++ f xs))
went-out a b c i j k h0 h1 h2 last f g xs r p e q =
    let all : f xs ≡ p.text ++ last = ap f (sym (append-nil xs)) ∙ p.goes [] ∙ ap (λ l. p.text ++ l) e in
    rw all (puts-on a b c i j k h0 h1 h2 p.text last r p.writes q)

-- ---- the digits of a line

pub digits-append : (xs ys : List ℕ) → digits_of (xs ++ ys) ≡ digits_of xs ++ digits_of ys
unfolding digits_of
digits-append [] ys = refl
digits-append (x ∷ xs) ys = ap (λ l. x / 16 ∷ x % 16 ∷ l) (digits-append xs ys)

pub digits-joined : (n : ℕ) (f : ℕ → List ℕ) → digits_of (joined_below n f) ≡ joined_below n (λ k. digits_of (f k))
unfolding digits_of
digits-joined zero f = rw (joined-none f, joined-none (λ (k : ℕ). digits_of (f k))) refl
digits-joined (suc n) f = rw (joined-suc n f, joined-suc n (λ (k : ℕ). digits_of (f k)), digits-append (joined_below n f) (f n), digits-joined n f) refl

pub line-digits : (s : ImageSettings) (g : Grid) (r : ℕ) → digits_of (black_line s g r) ≡ joined_below (line_length s g) (λ k. black_byte s g r k / 16 ∷ black_byte s g r k % 16 ∷ [])
unfolding black_line digits_of
line-digits s g r = digits-joined (line_length s g) (λ k. black_byte s g r k ∷ [])

-- ---- the lines of a row

pub first-dark : (s : ImageSettings) (g : Grid) (r : ℕ) → has_dark_below (raster_width s.margin g) s g r ≡ true → first_line s g r ≡ runs_from 0 0 (digits_of (black_line s g r))
unfolding first_line
first-dark s g r h = rw h refl

pub first-light : (s : ImageSettings) (g : Grid) (r : ℕ) → has_dark_below (raster_width s.margin g) s g r ≡ false → first_line s g r ≡ 44 ∷ []
unfolding first_line
first-light s g r h = rw h refl

-- one more part was written after a text
pub more-after : (a b c : Writer) (i j l : ℕ) (h0 h1 h2 x part : List ℕ) (f : ℕ → List ℕ) (k : ℕ) → part ≡ f k → Writes a b i j (h0 ++ (x ++ joined_below k f)) h1
    → Writes b c j l (h1 ++ part) h2 → Writes a c i l (h0 ++ (x ++ joined_below (k + 1) f)) h2
more-after a b c i j l h0 h1 h2 x part f k here p q =
    subst (λ y. Writes a c i l y h2) (append_assoc h0 x (joined_below (k + 1) f))
    (put-more a b c i j l (h0 ++ x) h1 h2 part f k here (subst (λ y. Writes a b i j y h1) (sym (append_assoc h0 x (joined_below k f))) p) q)

-- the writer failed in the next part after a text
pub failed-after : (a b c : Writer) (i j : ℕ) (h0 h1 x part : List ℕ) (f : ℕ → List ℕ) (k n : ℕ) → part ≡ f k → k < n → Writes a b i j (h0 ++ (x ++ joined_below k f)) h1
    → Stops b c j (h1 ++ part) → Stops a c i (h0 ++ (x ++ joined_below n f))
failed-after a b c i j h0 h1 x part f k n here l p q =
    subst (λ y. Stops a c i y) (append_assoc h0 x (joined_below n f))
    (put-failed a b c i j (h0 ++ x) h1 part f k n here l (subst (λ y. Writes a b i j y h1) (sym (append_assoc h0 x (joined_below k f))) p) q)

-- ---- before the first digit

pub went-start : (a : Writer) (i : ℕ) (h : List ℕ) (byte : ℕ → List ℕ) (d n : ℕ) → d ≡ 0 → n ≡ 0 → WentOn a a i i h h (λ rest. runs_from 0 0 (joined_below 0 byte ++ rest)) (λ rest. runs_from d n rest)
went-start a i h byte d n e f = went-same a i h (λ rest. runs_from 0 0 (joined_below 0 byte ++ rest)) (λ rest. runs_from d n rest) (λ rest. rw (joined-none byte, e, f) refl)

-- ---- dark modules of a row

pub dark-none : (s : ImageSettings) (g : Grid) (r : ℕ) → false ≡ has_dark_below 0 s g r
unfolding has_dark_below
dark-none s g r = refl

pub dark-more : (n : ℕ) (s : ImageSettings) (g : Grid) (r : ℕ) (d b : Bool) → d ≡ has_dark_below n s g r → b ≡ is_dark_at s.margin g r n → (d || b) ≡ has_dark_below (n + 1) s g r
unfolding has_dark_below
dark-more n s g r d b p q = let e : n + 1 ≡ suc n = omega arith in rw (p, q, e) refl
