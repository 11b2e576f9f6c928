-- How the texts of places join while they are added and written.
use Rattle.qr_devices.specs.Device.{Writer}
use Rattle.qr_devices.{proofs.Facts.{stops-first, writes-none, writes-on, writes-stop}, specs.Writing.{Stops, Writes}}
use Rattle.qr_drawing.specs.Raster.{texts_below}
use Rattle.std.proofs.Common.{◌≡◌, ◌++◌, ◌∙◌, ◌<◌, ◌≤◌, ◌+◌, ◌-◌, ◌*◌, ℕ, zero, suc, List, [], ◌∷◌, refl, sym, ap, arith, append_assoc, append-nil, take, length, length-append, get_or}
use Rattle.std.{proofs.{Math.Nat.suc-mul, lemmas.{Grind.flat_map-append, List.{take_all, take_more}}}, specs.List.{flat_map, range_with_len}}

-- n + 1 numbers are n numbers and one more
range-more : (a n : ℕ) → range_with_len a (n + 1) ≡ range_with_len a n ++ (a + n) ∷ []
range-more a zero = let e : a ≡ a + 0 = omega arith in rw (← e) refl
range-more a (suc n) = search (arith, range-more (a + 1) n)

-- the texts of n + 1 places are those of n places and one more
pub texts_below-more : (n : ℕ) (text : ℕ → List ℕ) → texts_below (n + 1) text ≡ texts_below n text ++ text n
unfolding texts_below
texts_below-more n text = search (arith, range-more, flat_map-append, append-nil)

-- the same lemma with the successor in the form that a match yields
texts_below-suc : (n : ℕ) (text : ℕ → List ℕ) → texts_below (suc n) text ≡ texts_below n text ++ text n
texts_below-suc n text = ap (λ k. texts_below k text) (omega arith) ∙ texts_below-more n text

-- the texts of n + d places are those of n places and of d more
pub texts_below-add : (n d : ℕ) (text : ℕ → List ℕ) → texts_below (n + d) text ≡ texts_below n text ++ texts_below d (λ i. text (n + i))
unfolding texts_below
texts_below-add n zero text = search (arith, append-nil)
texts_below-add n (suc d) text =
    let e : n + suc d ≡ n + d + 1 = omega arith in
    let rest = λ (i : ℕ). text (n + i) in
    cc (
      e,
      texts_below-more (n + d) text,
      texts_below-add n d text,
      append_assoc (texts_below n text) (texts_below d rest) (text (n + d)),
      texts_below-suc d rest,
    )

-- texts that are all empty are empty together
pub texts_below-none : (n : ℕ) (text : ℕ → List ℕ) → ((k : ℕ) → k < n → text k ≡ []) → texts_below n text ≡ []
unfolding texts_below
texts_below-none zero text none = refl
texts_below-none (suc n) text none =
    cc (texts_below-suc n text, texts_below-none n text (λ k lt. none k (omega arith)), none n (omega arith))

-- if the texts from m to n are empty, the texts below n are those below m
pub texts_below-same : (m n : ℕ) (text : ℕ → List ℕ) → m ≤ n → ((k : ℕ) → m ≤ k → k < n → text k ≡ []) → texts_below n text ≡ texts_below m text
texts_below-same m n text le none =
    let e : n ≡ m + (n - m) = omega arith in search (arith, texts_below-none, texts_below-add, append-nil)

-- texts that are equal place by place are equal as a whole
pub texts_below-alike : (n : ℕ) (f g : ℕ → List ℕ) → ((k : ℕ) → k < n → f k ≡ g k) → texts_below n f ≡ texts_below n g
unfolding texts_below
texts_below-alike zero f g h = refl
texts_below-alike (suc n) f g h =
    cc (
      texts_below-suc n f,
      texts_below-suc n g,
      texts_below-alike n f g (λ k lt. h k (omega arith)),
      h n (omega arith),
    )

-- n texts of at most b bytes are at most n * b bytes long
pub texts_below-length : (n b : ℕ) (text : ℕ → List ℕ) → ((k : ℕ) → length (text k) ≤ b) → length (texts_below n text) ≤ n * b
unfolding texts_below
texts_below-length zero b text most = omega arith
texts_below-length (suc n) b text most = search (arith, texts_below-suc, length-append, suc-mul, texts_below-length n b text most)

-- the texts of the first n items of a list are the texts of n places
texts-of-first : {A : Type 0} (text : A → List ℕ) (xs : List A) (d : A) (n : ℕ) → n ≤ length xs
    → flat_map text (take n xs) ≡ texts_below n (λ k. text (get_or xs k d))
unfolding texts_below
texts-of-first text xs d zero le = refl
texts-of-first text xs d (suc n) le =
    let e : suc n ≡ n + 1 = omega arith in
    cc (
      e,
      take_more xs n d (omega arith),
      flat_map-append text (take n xs) (get_or xs n d ∷ []),
      texts-of-first text xs d n (omega arith),
      append-nil (text (get_or xs n d)),
      texts_below-suc n (λ k. text (get_or xs k d)),
    )

-- the texts of all items of a list are the texts of as many places
pub texts-of-items : {A : Type 0} (text : A → List ℕ) (xs : List A) (d : A) → flat_map text xs ≡ texts_below (length xs) (λ k. text (get_or xs k d))
texts-of-items text xs d = search (arith, take_all, texts-of-first)

-- ---- texts that are added

-- before the first place nothing was added
pub added-none : (h : List ℕ) (f : ℕ → List ℕ) → h ≡ h ++ texts_below 0 f
unfolding texts_below
added-none h f = sym (append-nil h)

-- the texts of d places more were added
pub added-more : (h t u : List ℕ) (n d : ℕ) (f g : ℕ → List ℕ) → t ≡ h ++ texts_below n f → u ≡ t ++ texts_below d g
    → texts_below d g ≡ texts_below d (λ i. f (n + i)) → u ≡ h ++ texts_below (n + d) f
added-more h t u n d f g p q same = search (arith, append_assoc, texts_below-add)

-- the text of the next place was added
pub added-next : (h t u : List ℕ) (n : ℕ) (f : ℕ → List ℕ) → t ≡ h ++ texts_below n f → u ≡ t ++ f n → u ≡ h ++ texts_below (n + 1) f
added-next h t u n f p q = cc (q, p, append_assoc h (texts_below n f) (f n), texts_below-more n f)

-- ---- texts that are written through the pen

-- before the first text that is not empty nothing was written
pub put-none : (a : Writer) (i n : ℕ) (h : List ℕ) (text : ℕ → List ℕ) → texts_below n text ≡ [] → Writes a a i i (h ++ texts_below n text) h
put-none a i n h text e = rw e (writes-none a i h)

-- without places there is no text
pub no-texts : (text : ℕ → List ℕ) → texts_below 0 text ≡ []
unfolding texts_below
no-texts text = refl

-- if the text of place m is written, and the texts from there to n are empty, the texts of n places are written
pub put-next : (a b c : Writer) (i j k m n : ℕ) (h0 h1 h2 piece : List ℕ) (text : ℕ → List ℕ) →
    text m ≡ piece → texts_below n text ≡ texts_below (m + 1) text →
    Writes a b i j (h0 ++ texts_below m text) h1 → Writes b c j k (h1 ++ piece) h2 →
    Writes a c i k (h0 ++ texts_below n text) h2
put-next a b c i j k m n h0 h1 h2 piece text here same p q =
    rw (same, texts_below-more m text) (writes-on a b c i j k h0 h1 h2 (texts_below m text) (text m) p (rw here q))

-- if the texts of m places and then the text of place m are written, the texts of m + 1 places are written
pub put-whole : (a b : Writer) (i j m : ℕ) (h0 h1 piece : List ℕ) (text : ℕ → List ℕ) → text m ≡ piece → Writes a b i j ((h0 ++ texts_below m text) ++ piece) h1
    → Writes a b i j (h0 ++ texts_below (m + 1) text) h1
put-whole a b i j m h0 h1 piece text here p = search (arith, texts_below-more, append_assoc)

-- if the writer failed in the text of place m of n, after the texts before it, it failed in the texts of n places
pub stops-at : (a c : Writer) (i m n : ℕ) (h0 piece : List ℕ) (text : ℕ → List ℕ) → text m ≡ piece → m < n
    → Stops a c i ((h0 ++ texts_below m text) ++ piece) → Stops a c i (h0 ++ texts_below n text)
stops-at a c i m n h0 piece text here lt q =
    let rest = texts_below (n - (m + 1)) (λ i. text (m + 1 + i)) in
    let e : m + 1 + (n - (m + 1)) ≡ n = omega arith in
    let whole : (texts_below m text ++ piece) ++ rest ≡ texts_below n text = search (arith, texts_below-more, texts_below-add) in
    rw (← whole) (stops-first a c i h0 (texts_below m text ++ piece) rest (rw append_assoc at q))

-- the same if the texts before it are written, and the writer failed after that
pub put-stops : (a b c : Writer) (i j m n : ℕ) (h0 h1 piece : List ℕ) (text : ℕ → List ℕ) →
    text m ≡ piece → m < n → Writes a b i j (h0 ++ texts_below m text) h1 → Stops b c j (h1 ++ piece) →
    Stops a c i (h0 ++ texts_below n text)
put-stops a b c i j m n h0 h1 piece text here lt p q = search (arith, stops-at, append_assoc, writes-stop)
