-- A graphic of ZPL is read back, and the label around it.
use Rattle.std.proofs.Common.{◌≡◌, ℕ, zero, suc, ◌+◌, ◌-◌, ◌*◌, ◌/◌, ◌%◌, ◌^◌, ◌<◌, ◌≤◌, refl, sym, ap, ◌∙◌, inl, inr, arith, List, [], ◌∷◌, ◌++◌, Bool, true, false, ◌||◌, eqb, leb, ltb, length, take, drop, max, append_assoc, append-nil, length-append, Some, codes}
use Rattle.std.{proofs.{lemmas.Bool.{cases_eq, cases_lt, eq-eqb, le-leb, lt-ltb}, lemmas.Nat.mod-mul-add, Math.Nat.{mul-div_cancel, mul-le-mul_right, mul-mod_left}, lemmas.List.Elements.{All-head, All-tail, All-cons}}, specs.{List.All, Prelude.decimal}}
use Rattle.qr_matrix.specs.{Grid.Grid, Raster.{is_dark_at, raster_width}}
use Rattle.qr_images.specs.Image.{bit, black_byte, black_line, black_lines, byte_of, image_width, joined_below, line_length, repeated}
use Rattle.qr_images.specs.Labels.{after, number_before}
use Rattle.qr_images.specs.Packing.{digit_text, digits_of, first_line, has_dark_below, ones_text, packed_row, packed_rows, run_text, runs_from, twenties_text}
use Rattle.qr_images.specs.Pbm.{leading}
use Rattle.qr_images.specs.Png.{same}
use Rattle.qr_images.specs.PrinterLaws.{ZplLabelsAreReadBack}
use Rattle.qr_images.specs.Printing.{zpl_file, zpl_head}
use Rattle.qr_images.specs.Zpl.{Graphic, bytes_of, count_of, digit_of, read_byte, read_bytes, zpl_label}
use Rattle.qr_images.specs.declared.image.ImageSettings.{ImageSettings}
use Rattle.qr_images.proofs.lemmas.{checksums.AdlerLemmas.repeated-end, lines.{joined-none, joined-rows, joined-suc, repeated-one}, pixels.dark_right, runs.{digits-joined, first-dark, first-light, line-digits}}
use Rattle.qr_images.proofs.lemmas.laws.{BitmapLemmas.{black-length, lines-length}, DotLemmas.{printable-is, shows-in-bytes}, FileLemmas.{drop-own, take-own}, LabelLemmas.{after-back, number-back, number-comma}, LawLemmas.{all-app, all-none, byte-in, width-in}, PixelLemmas.joined-length}

-- What was read, if no count stands before the next digit
abbrev at : List ℕ → Graphic
at ds = record { digits = ds; count = 0 }

-- ---- characters

count-twenties : (k : ℕ) → 1 ≤ k → k ≤ 20 → count_of (102 + k) ≡ 20 * k
unfolding count_of
count-twenties k l m =
    let a : leb 71 (102 + k) ≡ true = le-leb _ _ (omega arith) in
    let b : leb (102 + k) 89 ≡ false = search arith in
    let c : leb 103 (102 + k) ≡ true = le-leb _ _ (omega arith) in
    let d : leb (102 + k) 122 ≡ true = le-leb _ _ (omega arith) in
    let e : 102 + k - 102 ≡ k = omega arith in
    rw (a, b, c, d, e) refl

count-ones : (k : ℕ) → 1 ≤ k → k ≤ 19 → count_of (70 + k) ≡ k
unfolding count_of
count-ones k l m =
    let a : leb 71 (70 + k) ≡ true = le-leb _ _ (omega arith) in
    let b : leb (70 + k) 89 ≡ true = le-leb _ _ (omega arith) in
    let e : 70 + k - 70 ≡ k = omega arith in
    rw (a, b, e) refl

count-none : (b : ℕ) → b ≤ 70 → count_of b ≡ 0
unfolding count_of
count-none b l =
    let a : leb 71 b ≡ false = search arith in
    let c : leb 103 b ≡ false = search arith in
    rw (a, c) refl

-- The byte is the character of the digit, and of nothing else
record IsDigit (b d : ℕ) : Type 0 where
  low : b ≤ 70
  comma : eqb b 44 ≡ false
  mark : eqb b 33 ≡ false
  colon : eqb b 58 ≡ false
  digit : digit_of b ≡ Some d

digit-low : (d : ℕ) → d < 10 → IsDigit (48 + d) d
unfolding digit_of
digit-low d l =
    let a : leb 48 (48 + d) ≡ true = le-leb _ _ (omega arith) in
    let b : leb (48 + d) 57 ≡ true = le-leb _ _ (omega arith) in
    let e : 48 + d - 48 ≡ d = omega arith in
    record { low = omega arith; comma = search arith; mark = search arith; colon = search arith; digit = rw (a, b, e) refl }

digit-high : (d : ℕ) → 10 ≤ d → d < 16 → IsDigit (55 + d) d
unfolding digit_of
digit-high d l m =
    let a : leb 48 (55 + d) ≡ true = le-leb _ _ (omega arith) in
    let b : leb (55 + d) 57 ≡ false = search arith in
    let c : leb 65 (55 + d) ≡ true = le-leb _ _ (omega arith) in
    let f : leb (55 + d) 70 ≡ true = le-leb _ _ (omega arith) in
    let e : 55 + d - 55 ≡ d = omega arith in
    record { low = omega arith; comma = search arith; mark = search arith; colon = search arith; digit = rw (a, b, c, f, e) refl }

is-digit : (d : ℕ) → d < 16 → IsDigit (digit_text d) d
is-digit d l = elim (cases_lt d 10) [
  | inl lt ↦ let yes : ltb d 10 ≡ true = lt-ltb d 10 lt in rw yes (digit-low d lt)
  | inr ge ↦ let no : ltb d 10 ≡ false = search arith in rw no (digit-high d ge l)
]

-- ---- one byte

step-count : (n : ℕ) (ds : List ℕ) (m b k : ℕ) → count_of b ≡ k → 0 < k → read_byte n (record { digits = ds; count = m }) b ≡ Some (record { digits = ds; count = m + k })
unfolding read_byte
step-count n ds m b k e l = let yes : ltb 0 k ≡ true = lt-ltb 0 k l in rw (e, yes) refl

step-digit : (n a f : ℕ) (ds : List ℕ) (m b d : ℕ) → IsDigit b d → length ds ≡ a * n + f → f < n → max 1 m ≤ n - f
    → read_byte n (record { digits = ds; count = m }) b ≡ Some (at (ds ++ repeated (max 1 m) (d ∷ [])))
unfolding read_byte
step-digit n a f ds m b d i long lt fit =
    let z : count_of b ≡ 0 = count-none b i.low in
    let fill : length ds % n ≡ f = ap (λ k. k % n) long ∙ mod-mul-add a n f lt in
    let fits : leb (max 1 m) (n - f) ≡ true = le-leb _ _ fit in
    rw (z, i.comma, i.mark, i.colon, i.digit, fill, fits) refl

step-comma : (n a : ℕ) (ds : List ℕ) → length ds ≡ a * n → 0 < n → read_byte n (at ds) 44 ≡ Some (at (ds ++ repeated n (0 ∷ [])))
unfolding read_byte count_of
step-comma n a ds long pos =
    let e : length ds ≡ a * n + 0 = omega arith in
    let fill : length ds % n ≡ 0 = ap (λ k. k % n) e ∙ mod-mul-add a n 0 pos in
    let z : n - 0 ≡ n = omega arith in
    rw (fill, z) refl

step-colon : (n a : ℕ) (xs ys : List ℕ) → length xs ≡ a * n → length ys ≡ n → 0 < n → read_byte n (at (xs ++ ys)) 58 ≡ Some (at ((xs ++ ys) ++ ys))
unfolding read_byte count_of
step-colon n a xs ys long line pos =
    let s : suc a * n ≡ a * n + n = grind arith in
    let e : length (xs ++ ys) ≡ suc a * n + 0 = omega (arith, length-append xs ys) in
    let fill : length (xs ++ ys) % n ≡ 0 = ap (λ k. k % n) e ∙ mod-mul-add (suc a) n 0 pos in
    let z : n - 0 ≡ n = omega arith in
    let own : eqb n n ≡ true = eq-eqb n n refl in
    let some : leb n (length (xs ++ ys)) ≡ true = le-leb _ _ (omega (arith, length-append xs ys)) in
    let last : drop (length (xs ++ ys) - n) (xs ++ ys) ≡ ys = drop-own xs ys (length (xs ++ ys) - n) (omega (arith, length-append xs ys)) in
    rw (fill, z, own, some, last) refl

read-step : (n : ℕ) (s t : Graphic) (b : ℕ) (rest : List ℕ) → read_byte n s b ≡ Some t → read_bytes n s (b ∷ rest) ≡ read_bytes n t rest
unfolding read_bytes
read-step n s t b rest e = rw e refl

-- ---- a run

read-twenties : (n : ℕ) (ds : List ℕ) (m : ℕ) (rest : List ℕ) → m ≤ 419 → read_bytes n (at ds) (twenties_text m ++ rest) ≡ read_bytes n (record { digits = ds; count = 20 * (m / 20) }) rest
read-twenties n ds m rest l = elim (cases_lt m 20) [
  | inl lt ↦
      let yes : ltb m 20 ≡ true = lt-ltb m 20 lt in
      let z : 20 * (m / 20) ≡ 0 = omega arith in
      rw (yes, z) refl
  | inr ge ↦
      let no : ltb m 20 ≡ false = search arith in
      let z : 0 + 20 * (m / 20) ≡ 20 * (m / 20) = omega arith in
      let s = step-count n ds 0 (102 + m / 20) (20 * (m / 20)) (count-twenties (m / 20) (omega arith) (omega arith)) (omega arith) in
      rw no (read-step n (at ds) _ (102 + m / 20) rest (rw z at s))
]

read-ones : (n : ℕ) (ds : List ℕ) (c m : ℕ) (rest : List ℕ) → read_bytes n (record { digits = ds; count = c }) (ones_text m ++ rest) ≡ read_bytes n (record { digits = ds; count = c + m % 20 }) rest
read-ones n ds c m rest = elim (cases_eq (m % 20) 0) [
  | inl e ↦
      let z : c + 0 ≡ c = omega arith in
      rw (e, z) refl
  | inr some ↦
      let no : eqb (m % 20) 0 ≡ false = search arith in
      rw no (read-step n (record { digits = ds; count = c }) _ (70 + m % 20) rest (step-count n ds c (70 + m % 20) (m % 20) (count-ones (m % 20) (omega arith) (omega arith)) (omega arith)))
]

read-one : (n a f : ℕ) (ds : List ℕ) (d : ℕ) (rest : List ℕ) → length ds ≡ a * n + f → f < n → d < 16 → read_bytes n (at ds) (digit_text d ∷ rest) ≡ read_bytes n (at (ds ++ d ∷ [])) rest
unfolding repeated
read-one n a f ds d rest long lt low = read-step n (at ds) _ (digit_text d) rest (step-digit n a f ds 0 (digit_text d) d (is-digit d low) long lt (omega arith))

-- a run of three digits or more
read-long : (n a f : ℕ) (ds : List ℕ) (d m : ℕ) (rest : List ℕ) → length ds ≡ a * n + f → f + m ≤ n → 3 ≤ m → m ≤ 419 → d < 16
    → read_bytes n (at ds) (twenties_text m ++ (ones_text m ++ (digit_text d ∷ rest))) ≡ read_bytes n (at (ds ++ repeated m (d ∷ []))) rest
read-long n a f ds d m rest long fit least most low =
    let e : 20 * (m / 20) + m % 20 ≡ m = omega arith in
    let x : max 1 m ≡ m = omega arith in
    let s = step-digit n a f ds m (digit_text d) d (is-digit d low) long (omega arith) (omega arith) in
    read-twenties n ds m (ones_text m ++ (digit_text d ∷ rest)) most ∙ read-ones n ds (20 * (m / 20)) m (digit_text d ∷ rest)
    ∙ rw e (read-step n (record { digits = ds; count = m }) _ (digit_text d) rest (rw x at s))

read-run : (n a f : ℕ) (ds : List ℕ) (d m : ℕ) (rest : List ℕ) → length ds ≡ a * n + f → f + m ≤ n → 1 ≤ m → m ≤ 419 → d < 16
    → read_bytes n (at ds) (run_text d m ++ rest) ≡ read_bytes n (at (ds ++ repeated m (d ∷ []))) rest
unfolding run_text repeated
read-run n a f ds d m rest long fit some most low = elim (cases_lt m 3) [
  | inl lt ↦ elim (cases_eq m 1) [
    | inl one ↦ rw one (read-one n a f ds d rest long (omega arith) low)
    | inr more ↦
        let two : m ≡ 2 = omega arith in
        let both = read-one n a (f + 1) (ds ++ d ∷ []) d rest (omega (arith, length-append ds (d ∷ []))) (omega arith) low in
        rw two (read-one n a f ds d (digit_text d ∷ rest) long (omega arith) low ∙ rw append_assoc at both)
  ]
  | inr ge ↦
      let no : ltb m 3 ≡ false = search arith in
      let e : (twenties_text m ++ (ones_text m ++ digit_text d ∷ [])) ++ rest ≡ twenties_text m ++ (ones_text m ++ (digit_text d ∷ rest)) =
      append_assoc (twenties_text m) (ones_text m ++ digit_text d ∷ []) rest ∙ ap (λ l. twenties_text m ++ l) (append_assoc (ones_text m) (digit_text d ∷ []) rest) in
      rw no (ap (read_bytes n (at ds)) e ∙ read-long n a f ds d m rest long fit ge most low)
]

-- ---- runs

pub repeated-length : (m : ℕ) (ys : List ℕ) → length (repeated m ys) ≡ m * length ys
unfolding repeated
repeated-length zero ys = omega arith
repeated-length (suc m) ys =
    let e : suc m * length ys ≡ length ys + m * length ys = grind arith in
    omega (arith, length-append ys (repeated m ys), repeated-length m ys)

-- the digits of a run, and one more
run-joined : (d e m : ℕ) (more : List ℕ) → e ≡ d → repeated (suc m) (d ∷ []) ++ more ≡ repeated m (d ∷ []) ++ (e ∷ more)
run-joined d e m more same =
    let s : suc m ≡ m + 1 = omega arith in
    ap (λ k. repeated k (d ∷ []) ++ more) s ∙ ap (λ l. l ++ more) (repeated-end m (d ∷ [])) ∙ append_assoc (repeated m (d ∷ [])) (d ∷ []) more
    ∙ ap (λ x. repeated m (d ∷ []) ++ (x ∷ more)) (sym same)

read-runs : (n a f : ℕ) (ds : List ℕ) (d m : ℕ) (more rest : List ℕ) → length ds ≡ a * n + f → f + (m + length more) ≤ n → 1 ≤ m → m ≤ 419 → d < 16 → All (λ b. b < 16) more
    → read_bytes n (at ds) (runs_from d m more ++ rest) ≡ read_bytes n (at (ds ++ (repeated m (d ∷ []) ++ more))) rest
unfolding runs_from
read-runs n a f ds d m [] rest long fit some most low all = rw append-nil (read-run n a f ds d m rest long (omega arith) some most low)
read-runs n a f ds d m (e ∷ more) rest long fit some most low all =
    let head : e < 16 = All-head (λ (b : ℕ). b < 16) e more all in
    let tail = All-tail (λ (b : ℕ). b < 16) e more all in
    let run = repeated m (d ∷ []) in
    let grown : length (ds ++ run) ≡ a * n + (f + m) = omega (arith, length-append ds run, repeated-length m (d ∷ [])) in
    let this = read-run n a f ds d m (runs_from e 1 more ++ rest) long (omega arith) some most low in
    let next = read-runs n a (f + m) (ds ++ run) e 1 more rest grown (omega arith) (omega arith) (omega arith) head tail in
    let split : read_bytes n (at ds) ((run_text d m ++ runs_from e 1 more) ++ rest) ≡ read_bytes n (at (ds ++ (run ++ (e ∷ more)))) rest =
    ap (read_bytes n (at ds)) (append_assoc (run_text d m) (runs_from e 1 more) rest) ∙ this ∙ next
    ∙ ap (λ l. read_bytes n (at l) rest) (append_assoc ds run (repeated 1 (e ∷ []) ++ more) ∙ ap (λ l. ds ++ (run ++ (l ++ more))) (repeated-one (e ∷ []))) in
    elim (cases_lt m 419) [
      | inl lt ↦
          let yes : ltb m 419 ≡ true = lt-ltb m 419 lt in
          elim (cases_eq e d) [
            | inl same ↦
                let eq : eqb e d ≡ true = eq-eqb e d same in
                rw (yes, eq) (read-runs n a f ds d (suc m) more rest long (omega arith) (omega arith) (omega arith) low tail ∙ ap (λ l. read_bytes n (at (ds ++ l)) rest) (run-joined d e m more same))
            | inr other ↦ let ne : eqb e d ≡ false = search arith in rw (yes, ne) split
          ]
      | inr ge ↦ let no : ltb m 419 ≡ false = search arith in rw no split
    ]

runs-start : (x : ℕ) (more : List ℕ) → runs_from 0 0 (x ∷ more) ≡ runs_from x 1 more
unfolding runs_from run_text repeated
runs-start x more = elim (cases_eq x 0) [
  | inl e ↦ rw e refl
  | inr some ↦ let no : eqb x 0 ≡ false = search arith in rw no refl
]

-- ---- a line

read-line : (n a : ℕ) (ds xs rest : List ℕ) → length ds ≡ a * n → length xs ≡ n → 1 ≤ n → All (λ b. b < 16) xs → read_bytes n (at ds) (runs_from 0 0 xs ++ rest) ≡ read_bytes n (at (ds ++ xs)) rest
read-line n a ds [] rest long line some all = absurd (omega arith)
read-line n a ds (x ∷ more) rest long line some all =
    let head : x < 16 = All-head (λ (b : ℕ). b < 16) x more all in
    let tail = All-tail (λ (b : ℕ). b < 16) x more all in
    let runs = read-runs n a 0 ds x 1 more rest (omega arith) (omega arith) (omega arith) (omega arith) head tail in
    rw (runs-start x more) (rw (repeated-one (x ∷ [])) at runs)

all-joined : (P : ℕ → Type 0) (n : ℕ) (f : ℕ → List ℕ) → ((k : ℕ) → All P (f k)) → All P (joined_below n f)
unfolding joined_below
all-joined P zero f each = all-none P
all-joined P (suc n) f each = all-app P (joined_below n f) (f n) (all-joined P n f each) (each n)

digits-low : (xs : List ℕ) → All (λ b. b < 256) xs → All (λ b. b < 16) (digits_of xs)
unfolding digits_of
digits-low [] all = all-none (λ (b : ℕ). b < 16)
digits-low (x ∷ xs) all =
    let head : x < 256 = All-head (λ (b : ℕ). b < 256) x xs all in
    let rest = digits-low xs (All-tail (λ (b : ℕ). b < 256) x xs all) in
    All-cons (λ (b : ℕ). b < 16) (x / 16) (x % 16 ∷ digits_of xs) (omega arith) (All-cons (λ (b : ℕ). b < 16) (x % 16) (digits_of xs) (omega arith) rest)

line-low : (s : ImageSettings) (g : Grid) (r : ℕ) → All (λ b. b < 256) (black_line s g r)
unfolding black_line
line-low s g r =
    all-joined (λ (b : ℕ). b < 256) (line_length s g) (λ k. black_byte s g r k ∷ [])
    (λ k. All-cons (λ (b : ℕ). b < 256) (black_byte s g r k) [] (byte-in (λ j. is_dark_at s.margin g r ((8 * k + j) / s.scale))) (all-none (λ (b : ℕ). b < 256)))

digits-length : (xs : List ℕ) → length (digits_of xs) ≡ 2 * length xs
unfolding digits_of
digits-length [] = omega arith
digits-length (x ∷ xs) = omega (arith, digits-length xs)

line-digits-length : (s : ImageSettings) (g : Grid) (r : ℕ) → length (digits_of (black_line s g r)) ≡ 2 * line_length s g
line-digits-length s g r = omega (arith, digits-length (black_line s g r), black-length s g r)

-- ---- a line without a black dot

or-false : (a b : Bool) → (a || b) ≡ false → (a ≡ false) × (b ≡ false)
or-false true b h = cc
or-false false b h = (refl, h)

light-below : (n : ℕ) (s : ImageSettings) (g : Grid) (r x : ℕ) → has_dark_below n s g r ≡ false → x < n → is_dark_at s.margin g r x ≡ false
unfolding has_dark_below
light-below zero s g r x h l = absurd (omega arith)
light-below (suc n) s g r x h l =
    let both = or-false (has_dark_below n s g r) (is_dark_at s.margin g r n) h in
    elim (cases_lt x n) [
      | inl lt ↦ light-below n s g r x both.0 lt
      | inr ge ↦ let e : x ≡ n = omega arith in rw e both.1
    ]

light-row : (s : ImageSettings) (g : Grid) (r : ℕ) → has_dark_below (raster_width s.margin g) s g r ≡ false → (x : ℕ) → is_dark_at s.margin g r x ≡ false
light-row s g r h x = elim (cases_lt x (raster_width s.margin g)) [
  | inl lt ↦ light-below (raster_width s.margin g) s g r x h lt
  | inr ge ↦ dark_right s.margin r x g (omega arith)
]

byte-black : (p : ℕ → Bool) → ((j : ℕ) → p j ≡ false) → byte_of p ≡ 0
unfolding byte_of bit
byte-black p h = rw (h 0, h 1, h 2, h 3, h 4, h 5, h 6, h 7) refl

zeros-joined : (n : ℕ) (f : ℕ → ℕ) → ((k : ℕ) → f k ≡ 0) → joined_below n (λ k. f k / 16 ∷ f k % 16 ∷ []) ≡ repeated (2 * n) (0 ∷ [])
unfolding repeated
zeros-joined zero f each = joined-none (λ (k : ℕ). f k / 16 ∷ f k % 16 ∷ [])
zeros-joined (suc n) f each =
    let e : 2 * suc n ≡ 2 * n + 1 + 1 = omega arith in
    rw (joined-suc n (λ (k : ℕ). f k / 16 ∷ f k % 16 ∷ []), zeros-joined n f each, each n, e, repeated-end (2 * n + 1) (0 ∷ []), repeated-end (2 * n) (0 ∷ []))
    (sym (append_assoc (repeated (2 * n) (0 ∷ [])) (0 ∷ []) (0 ∷ [])))

light-digits : (s : ImageSettings) (g : Grid) (r : ℕ) → has_dark_below (raster_width s.margin g) s g r ≡ false → digits_of (black_line s g r) ≡ repeated (2 * line_length s g) (0 ∷ [])
light-digits s g r h =
    line-digits s g r
    ∙ zeros-joined (line_length s g) (λ k. black_byte s g r k) (λ k. byte-black (λ j. is_dark_at s.margin g r ((8 * k + j) / s.scale)) (λ j. light-row s g r h ((8 * k + j) / s.scale)))

-- ---- the lines of a row

read-first : (s : ImageSettings) (g : Grid) (r a : ℕ) (ds rest : List ℕ) (b : Bool) → has_dark_below (raster_width s.margin g) s g r ≡ b → length ds ≡ a * (2 * line_length s g) → 1 ≤ line_length s g
    → read_bytes (2 * line_length s g) (at ds) (first_line s g r ++ rest) ≡ read_bytes (2 * line_length s g) (at (ds ++ digits_of (black_line s g r))) rest
read-first s g r a ds rest true h long some =
    rw (first-dark s g r h) (read-line (2 * line_length s g) a ds (digits_of (black_line s g r)) rest long (line-digits-length s g r) (omega arith) (digits-low (black_line s g r) (line-low s g r)))
read-first s g r a ds rest false h long some =
    rw (first-light s g r h, light-digits s g r h) (read-step (2 * line_length s g) (at ds) _ 44 rest (step-comma (2 * line_length s g) a ds long (omega arith)))

read-colons : (n a : ℕ) (ds ys : List ℕ) (m : ℕ) (rest : List ℕ) → length ds ≡ a * n → length ys ≡ n → 0 < n
    → read_bytes n (at (ds ++ ys)) (joined_below m (λ _. 58 ∷ []) ++ rest) ≡ read_bytes n (at (ds ++ repeated (m + 1) ys)) rest
read-colons n a ds ys zero rest long line pos = rw (joined-none {A = ℕ} (λ (k : ℕ). 58 ∷ []), repeated-one ys) refl
read-colons n a ds ys (suc m) rest long line pos =
    let mult : (a + m) * n ≡ a * n + m * n = grind arith in
    let own : m * length ys ≡ m * n = ap (λ k. m * k) line in
    let xs = ds ++ repeated m ys in
    let many : length xs ≡ (a + m) * n = omega (arith, length-append ds (repeated m ys), repeated-length m ys) in
    let before : ds ++ repeated (m + 1) ys ≡ xs ++ ys = ap (λ l. ds ++ l) (repeated-end m ys) ∙ sym (append_assoc ds (repeated m ys) ys) in
    let e : suc m + 1 ≡ m + 1 + 1 = omega arith in
    let done : ds ++ repeated (suc m + 1) ys ≡ (xs ++ ys) ++ ys =
    ap (λ k. ds ++ repeated k ys) e ∙ ap (λ l. ds ++ l) (repeated-end (m + 1) ys) ∙ sym (append_assoc ds (repeated (m + 1) ys) ys) ∙ ap (λ l. l ++ ys) before in
    rw (joined-suc {A = ℕ} m (λ (k : ℕ). 58 ∷ []), append_assoc (joined_below {A = ℕ} m (λ (k : ℕ). 58 ∷ [])) (58 ∷ []) rest)
    (read-colons n a ds ys m (58 ∷ rest) long line pos ∙ ap (λ l. read_bytes n (at l) (58 ∷ rest)) before ∙ read-step n (at (xs ++ ys)) _ 58 rest (step-colon n (a + m) xs ys many line pos)
    ∙ ap (λ l. read_bytes n (at l) rest) (sym done))

read-row : (s : ImageSettings) (g : Grid) (r a : ℕ) (ds rest : List ℕ) → length ds ≡ a * (2 * line_length s g) → 1 ≤ line_length s g → 1 ≤ s.scale
    → read_bytes (2 * line_length s g) (at ds) (packed_row s g r ++ rest) ≡ read_bytes (2 * line_length s g) (at (ds ++ repeated s.scale (digits_of (black_line s g r)))) rest
unfolding packed_row
read-row s g r a ds rest long some scale =
    let e : s.scale - 1 + 1 ≡ s.scale = omega arith in
    let colons : List ℕ = joined_below (s.scale - 1) (λ (k : ℕ). 58 ∷ []) in
    let more = read-colons (2 * line_length s g) a ds (digits_of (black_line s g r)) (s.scale - 1) rest long (line-digits-length s g r) (omega arith) in
    rw (append_assoc (first_line s g r) colons rest)
    (read-first s g r a ds (colons ++ rest) (has_dark_below (raster_width s.margin g) s g r) refl long some ∙ rw e at more)

-- ---- all lines

read-rows : (s : ImageSettings) (g : Grid) (n : ℕ) (rest : List ℕ) → 1 ≤ line_length s g → 1 ≤ s.scale
    → read_bytes (2 * line_length s g) (at []) (joined_below n (λ r. packed_row s g r) ++ rest) ≡ read_bytes (2 * line_length s g) (at (joined_below n (λ r. repeated s.scale (digits_of (black_line s g r))))) rest
read-rows s g zero rest some scale = rw (joined-none (λ (r : ℕ). packed_row s g r), joined-none (λ (r : ℕ). repeated s.scale (digits_of (black_line s g r)))) refl
read-rows s g (suc n) rest some scale =
    let width = 2 * line_length s g in
    let rows = λ (r : ℕ). repeated s.scale (digits_of (black_line s g r)) in
    let each = λ (r : ℕ). repeated-length s.scale (digits_of (black_line s g r)) ∙ ap (λ k. s.scale * k) (line-digits-length s g r) in
    let mult : n * (s.scale * width) ≡ n * s.scale * width = grind arith in
    let long : length (joined_below n rows) ≡ n * s.scale * width = joined-length n (s.scale * width) rows each ∙ mult in
    rw (joined-suc n (λ (r : ℕ). packed_row s g r), joined-suc n rows, append_assoc (joined_below n (λ (r : ℕ). packed_row s g r)) (packed_row s g n) rest)
    (read-rows s g n (packed_row s g n ++ rest) some scale ∙ read-row s g n (n * s.scale) (joined_below n rows) rest long some scale)

read-all : (s : ImageSettings) (g : Grid) → 1 ≤ line_length s g → 1 ≤ s.scale → read_bytes (2 * line_length s g) (at []) (packed_rows s g) ≡ Some (at (digits_of (black_lines s g)))
unfolding packed_rows black_lines read_bytes
read-all s g some scale =
    let n = raster_width s.margin g in
    let digits = digits-joined (n * s.scale) (λ y. black_line s g (y / s.scale)) ∙ joined-rows n s.scale (λ r. digits_of (black_line s g r)) scale in
    let all = rw append-nil at (read-rows s g n [] some scale) in
    all ∙ ap (λ l. Some (at l)) (sym digits)

bytes-back : (xs : List ℕ) → bytes_of (digits_of xs) ≡ xs
unfolding bytes_of digits_of
bytes-back [] = refl
bytes-back (x ∷ xs) = let e : x / 16 * 16 + x % 16 ≡ x = omega arith in rw (e, bytes-back xs) refl

-- ---- the label

number-caret : (n : ℕ) (rest : List ℕ) → leading n (94 ∷ rest) ≡ (n, 94 ∷ rest)
unfolding leading
number-caret n rest = refl

label-back : (left top stride count : ℕ) (packed lines : List ℕ) → left ≤ 32000 → top ≤ 32000 → 1 ≤ stride → 1 ≤ count → count * stride < 2 ^ 64 → stride < 2 ^ 64 → length lines ≡ count * stride
    → 1 ≤ count * stride → read_bytes (2 * stride) (at []) packed ≡ Some (at (digits_of lines))
    → zpl_label (zpl_head left top (count * stride) stride ++ (packed ++ codes "^FS\n^XZ\n"))
    ≡ Some (record { left = left; top = top; bitmap = record { width = 8 * stride; height = count; lines = lines } })
unfolding zpl_label zpl_head same
label-back left top stride count packed lines a b wide high small narrow long much read =
    let end : List ℕ = 94 ∷ 70 ∷ 83 ∷ 10 ∷ 94 ∷ 88 ∷ 90 ∷ 10 ∷ [] in
    let start : List ℕ = 94 ∷ 88 ∷ 65 ∷ 10 ∷ 94 ∷ 70 ∷ 79 ∷ [] in
    let graphic : List ℕ = 94 ∷ 71 ∷ 70 ∷ 65 ∷ 44 ∷ [] in
    let total = count * stride in
    let fifth : List ℕ = 44 ∷ (packed ++ end) in
    let fourth : List ℕ = 44 ∷ (decimal stride ++ fifth) in
    let third : List ℕ = 44 ∷ (decimal total ++ fourth) in
    let second : List ℕ = 94 ∷ 71 ∷ 70 ∷ 65 ∷ 44 ∷ (decimal total ++ third) in
    let first : List ℕ = 44 ∷ (decimal top ++ second) in
    let e : (94 ∷ 88 ∷ 65 ∷ 10 ∷ 94 ∷ 70 ∷ 79 ∷ (decimal left ++ (44 ∷ (decimal top ++ (94 ∷ 71 ∷ 70 ∷ 65 ∷ 44 ∷ (decimal total ++ (44 ∷ (decimal total ++ (44 ∷ (decimal stride ++ (44 ∷ []))))))))))) ++ (packed ++ end)
    ≡ start ++ (decimal left ++ first) = simp append_assoc in
    let text : after start (start ++ (decimal left ++ first)) ≡ Some (decimal left ++ first) = after-back start (decimal left ++ first) in
    let x : number_before (44 ∷ []) (decimal left ++ first) ≡ Some (left, decimal top ++ second) = number-back left (44 ∷ []) (decimal top ++ second) (omega arith) (number-comma left (decimal top ++ second)) in
    let y : number_before graphic (decimal top ++ second) ≡ Some (top, decimal total ++ third) = number-back top graphic (decimal total ++ third) (omega arith) (number-caret top (71 ∷ 70 ∷ 65 ∷ 44 ∷ (decimal total ++ third))) in
    let t : number_before (44 ∷ []) (decimal total ++ third) ≡ Some (total, decimal total ++ fourth) = number-back total (44 ∷ []) (decimal total ++ fourth) small (number-comma total (decimal total ++ fourth)) in
    let u : number_before (44 ∷ []) (decimal total ++ fourth) ≡ Some (total, decimal stride ++ fifth) = number-back total (44 ∷ []) (decimal stride ++ fifth) small (number-comma total (decimal stride ++ fifth)) in
    let w : number_before (44 ∷ []) (decimal stride ++ fifth) ≡ Some (stride, packed ++ end) = number-back stride (44 ∷ []) (packed ++ end) narrow (number-comma stride (packed ++ end)) in
    let n : length (packed ++ end) - 8 ≡ length packed = omega (arith, length-append packed end) in
    let last : drop (length packed) (packed ++ end) ≡ end = drop-own packed end (length packed) refl in
    let body : take (length packed) (packed ++ end) ≡ packed = take-own packed end (length packed) refl in
    let low : leb left 32000 ≡ true = le-leb _ _ a in
    let high-up : leb top 32000 ≡ true = le-leb _ _ b in
    let own : eqb total total ≡ true = eq-eqb total total refl in
    let some : leb 1 stride ≡ true = le-leb _ _ wide in
    let more : leb 1 total ≡ true = le-leb _ _ much in
    let whole : total % stride ≡ 0 = mul-mod_left count stride in
    let digits : eqb (length (digits_of lines)) (2 * total) ≡ true = eq-eqb _ _ (omega (arith, digits-length lines, long)) in
    let pos : 0 < stride = omega arith in
    let height : total / stride ≡ count = mul-div_cancel count pos in
    rw (e, text, x, y, t, u, w, n, last, low, high-up, own, some, more, whole, body, read, digits, height, bytes-back lines) refl

pub zpl-labels-read : ZplLabelsAreReadBack
unfolding zpl_file
zpl-labels-read s g p =
    let w = width-in s g (printable-is s g p) in
    let stride = line_length s g in
    let one : 1 * stride ≤ image_width s g * stride = mul-le-mul_right stride w.0 in
    let most : image_width s g * stride ≤ 37700 * stride = mul-le-mul_right stride w.1 in
    let whole = label-back s.left s.top stride (image_width s g) (packed_rows s g) (black_lines s g) p.left p.top (omega (arith, w.0)) w.0 (omega (arith, most, w.1)) (omega (arith, w.1)) (lines-length s g)
    (omega (arith, one, w.0)) (read-all s g (omega (arith, w.0)) p.some) in
    (_, whole, (refl, refl, shows-in-bytes s g p.some))
