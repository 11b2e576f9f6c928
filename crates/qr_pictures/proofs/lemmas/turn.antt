-- Finder patterns of a square that is turned.
use Rattle.std.proofs.Common.{◌≡◌, ℕ, ◌+◌, ◌-◌, ◌<◌, ◌≤◌, Bool, eqb, ◌||◌, not, max, refl, sym, ap, subst, ◌∙◌, arith}
use Rattle.std.specs.Int.{abs_diff}
use Rattle.qr_layout.specs.Region.{ring_of}
use Rattle.qr_pictures.specs.Finders.{HasFinder, HasFinders}
use Rattle.qr_pictures.specs.Turns.{turned}
use Rattle.qr_pictures.specs.Steps.{IsTurn, back}
use Rattle.qr_pictures.specs.declared.turn.Turn.{Turn, TheVariants.{Upright, Quarter, Half, ThreeQuarters}}

-- the colours `other` are the colours `dark` at other places, at the same distance from the middle of a pattern
moved : (n : ℕ) (dark other : ℕ → ℕ → Bool) (a b a2 b2 : ℕ) (row col : ℕ → ℕ → ℕ)
    → ((r c : ℕ) → r < n → c < n → (row r c < n) × (col r c < n) × (other r c ≡ dark (row r c) (col r c)) × (ring_of a b (row r c) (col r c) ≡ ring_of a2 b2 r c))
    → HasFinder n dark a b → HasFinder n other a2 b2
moved n dark other a b a2 b2 row col same h =
    record {
      rings = λ r c l m near.
          let k = same r c l m in
          let e = k.3 in
          let le : ring_of a b (row r c) (col r c) ≤ 4 = subst (λ (z : ℕ). z ≤ 4) (sym e) near in
          k.2 ∙ h.rings (row r c) (col r c) k.0 k.1 le ∙ ap (λ (z : ℕ). not (eqb z 2 || eqb z 4)) e;
    }

-- the square that a symbol of side `n` becomes if it is turned
abbrev pub Turned : Turn → ℕ → (ℕ → ℕ → Bool) → (ℕ → ℕ → Bool) → Type 0
Turned t n dark other = (r c : ℕ) → r < n → c < n → other r c ≡ turned t n dark r c

pub finder-same : (n : ℕ) (dark other : ℕ → ℕ → Bool) (a b : ℕ) → ((r c : ℕ) → r < n → c < n → dark r c ≡ other r c) → HasFinder n dark a b → HasFinder n other a b
finder-same n dark other a b same h = record { rings = λ r c l m near. sym (same r c l m) ∙ h.rings r c l m near }

-- distances from the other edge
far : (n a a2 r : ℕ) → r < n → a2 + a + 1 ≡ n → abs_diff a (n - 1 - r) ≡ abs_diff a2 r
far n a a2 r l e = omega arith

near : (a a2 r : ℕ) → a2 ≡ a → abs_diff a r ≡ abs_diff a2 r
near a a2 r e = ap (λ k. abs_diff k r) (sym e)

max-turned : (a b c d : ℕ) → a ≡ d → b ≡ c → max a b ≡ max c d
max-turned a b c d e f = omega arith

ring-quarter : (n a b a2 b2 r c : ℕ) → r < n → c < n → a2 ≡ b → b2 + a + 1 ≡ n → ring_of a b (n - 1 - c) r ≡ ring_of a2 b2 r c
ring-quarter n a b a2 b2 r c l m e f = max-turned (abs_diff a (n - 1 - c)) (abs_diff b r) (abs_diff a2 r) (abs_diff b2 c) (far n a b2 c m f) (near b a2 r e)

ring-half : (n a b a2 b2 r c : ℕ) → r < n → c < n → a2 + a + 1 ≡ n → b2 + b + 1 ≡ n → ring_of a b (n - 1 - r) (n - 1 - c) ≡ ring_of a2 b2 r c
ring-half n a b a2 b2 r c l m e f = ap (λ z. max z (abs_diff b (n - 1 - c))) (far n a a2 r l e) ∙ ap (λ z. max (abs_diff a2 r) z) (far n b b2 c m f)

ring-three : (n a b a2 b2 r c : ℕ) → r < n → c < n → a2 + b + 1 ≡ n → b2 ≡ a → ring_of a b c (n - 1 - r) ≡ ring_of a2 b2 r c
ring-three n a b a2 b2 r c l m e f = max-turned (abs_diff a c) (abs_diff b (n - 1 - r)) (abs_diff a2 r) (abs_diff b2 c) (near a b2 c f) (far n b a2 r l e)

quarter : (n : ℕ) (dark other : ℕ → ℕ → Bool) (a b a2 b2 : ℕ) → Turned Quarter n dark other → a2 ≡ b → b2 + a + 1 ≡ n → HasFinder n dark a b → HasFinder n other a2 b2
unfolding turned
quarter n dark other a b a2 b2 t e f h =
    moved n dark other a b a2 b2 (λ r c. n - 1 - c) (λ r c. r) (λ r c l m. (omega arith, l, t r c l m, ring-quarter n a b a2 b2 r c l m e f)) h

half : (n : ℕ) (dark other : ℕ → ℕ → Bool) (a b a2 b2 : ℕ) → Turned Half n dark other → a2 + a + 1 ≡ n → b2 + b + 1 ≡ n → HasFinder n dark a b → HasFinder n other a2 b2
unfolding turned
half n dark other a b a2 b2 t e f h =
    moved n dark other a b a2 b2 (λ r c. n - 1 - r) (λ r c. n - 1 - c) (λ r c l m. (omega arith, omega arith, t r c l m, ring-half n a b a2 b2 r c l m e f)) h

three : (n : ℕ) (dark other : ℕ → ℕ → Bool) (a b a2 b2 : ℕ) → Turned ThreeQuarters n dark other → a2 + b + 1 ≡ n → b2 ≡ a → HasFinder n dark a b → HasFinder n other a2 b2
unfolding turned
three n dark other a b a2 b2 t e f h =
    moved n dark other a b a2 b2 (λ r c. c) (λ r c. n - 1 - r) (λ r c l m. (m, omega arith, t r c l m, ring-three n a b a2 b2 r c l m e f)) h

flip : (n k : ℕ) → k < n → n - 1 - (n - 1 - k) ≡ k
flip n k l = omega arith

-- a square that is turned and turned back is as it was
pub turned-back : (t : Turn) (n : ℕ) (dark : ℕ → ℕ → Bool) (r c : ℕ) → r < n → c < n → turned t n (turned (back t) n dark) r c ≡ dark r c
unfolding turned
turned-back Upright n dark r c l m = refl
turned-back Quarter n dark r c l m = ap (λ k. dark r k) (flip n c m)
turned-back Half n dark r c l m = ap (λ k. dark k (n - 1 - (n - 1 - c))) (flip n r l) ∙ ap (λ k. dark r k) (flip n c m)
turned-back ThreeQuarters n dark r c l m = ap (λ k. dark k c) (flip n r l)

-- the turn of colours that agree
pub turned-same : (t : Turn) (n : ℕ) (dark other : ℕ → ℕ → Bool) (r c : ℕ) → ((i j : ℕ) → i < n → j < n → dark i j ≡ other i j) → r < n → c < n → turned t n dark r c ≡ turned t n other r c
unfolding turned
turned-same Upright n dark other r c same l m = same r c l m
turned-same Quarter n dark other r c same l m = same (n - 1 - c) r (omega arith) l
turned-same Half n dark other r c same l m = same (n - 1 - r) (n - 1 - c) (omega arith) (omega arith)
turned-same ThreeQuarters n dark other r c same l m = same c (n - 1 - r) m (omega arith)

back-back : (t : Turn) → back (back t) ≡ t
back-back Upright = refl
back-back Quarter = refl
back-back Half = refl
back-back ThreeQuarters = refl

pub turned-from : (t : Turn) (n : ℕ) (dark other : ℕ → ℕ → Bool) → Turned t n dark other → Turned (back t) n other dark
turned-from t n dark other h r c l m =
    sym (turned-back (back t) n dark r c l m) ∙ ap (λ u. turned (back t) n (turned u n dark) r c) (back-back t) ∙ sym (turned-same (back t) n other (turned t n dark) r c h l m)

-- ---- the finder patterns of a symbol, and those of the square in the picture

upright-place : (n : ℕ) (dark other : ℕ → ℕ → Bool) → Turned Upright n dark other → (r c : ℕ) → r < n → c < n → other r c ≡ dark r c
unfolding turned
upright-place n dark other h r c l m = h r c l m

quarter-is-no : {X : Type 0} → Quarter ≡ Upright → X
quarter-is-no e = cc

half-is-no : {X : Type 0} → Half ≡ Upright → X
half-is-no e = cc

three-is-no : {X : Type 0} → ThreeQuarters ≡ Upright → X
three-is-no e = cc

pub turn-shown : (t : Turn) (n : ℕ) (dark other : ℕ → ℕ → Bool) → 21 ≤ n → Turned t n dark other → HasFinders n dark → (HasFinder n dark (n - 4) (n - 4) → t ≡ Upright) → IsTurn n other t
turn-shown Upright n dark other some h f g =
    let same : (r c : ℕ) → r < n → c < n → dark r c ≡ other r c = λ r c l m. sym (upright-place n dark other h r c l m) in
    (finder-same n dark other 3 3 same f.top_left, finder-same n dark other 3 (n - 4) same f.top_right, finder-same n dark other (n - 4) 3 same f.bottom_left)
turn-shown Quarter n dark other some h f g = (
  quarter n dark other (n - 4) 3 3 3 h refl (omega arith) f.bottom_left,
  quarter n dark other 3 3 3 (n - 4) h refl (omega arith) f.top_left,
  (λ x. quarter-is-no (g (three n other dark (n - 4) 3 (n - 4) (n - 4) (turned-from Quarter n dark other h) (omega arith) refl x))),
  quarter n dark other 3 (n - 4) (n - 4) (n - 4) h refl (omega arith) f.top_right,
)
turn-shown Half n dark other some h f g = (
  (λ x. half-is-no (g (half n other dark 3 3 (n - 4) (n - 4) (turned-from Half n dark other h) (omega arith) (omega arith) x))),
  half n dark other (n - 4) 3 3 (n - 4) h (omega arith) (omega arith) f.bottom_left,
  half n dark other 3 (n - 4) (n - 4) 3 h (omega arith) (omega arith) f.top_right,
  half n dark other 3 3 (n - 4) (n - 4) h (omega arith) (omega arith) f.top_left,
)
turn-shown ThreeQuarters n dark other some h f g = (
  three n dark other 3 (n - 4) 3 3 h (omega arith) refl f.top_right,
  (λ x. three-is-no (g (quarter n other dark 3 (n - 4) (n - 4) (n - 4) (turned-from ThreeQuarters n dark other h) refl (omega arith) x))),
  three n dark other 3 3 (n - 4) 3 h (omega arith) refl f.top_left,
  three n dark other (n - 4) 3 (n - 4) (n - 4) h (omega arith) refl f.bottom_left,
)

pub turn-read : (t : Turn) (n : ℕ) (dark other : ℕ → ℕ → Bool) → 21 ≤ n → Turned t n dark other → Turned (back t) n other dark → IsTurn n other t
    → HasFinders n dark × (HasFinder n dark (n - 4) (n - 4) → t ≡ Upright)
turn-read Upright n dark other some h k is =
    let same = upright-place n dark other h in (
      record { top_left = finder-same n other dark 3 3 same is.0; top_right = finder-same n other dark 3 (n - 4) same is.1; bottom_left = finder-same n other dark (n - 4) 3 same is.2 },
      λ x. refl,
    )
turn-read Quarter n dark other some h k is = (
  record {
    top_left = three n other dark 3 (n - 4) 3 3 k (omega arith) refl is.1;
    top_right = three n other dark (n - 4) (n - 4) 3 (n - 4) k (omega arith) refl is.3;
    bottom_left = three n other dark 3 3 (n - 4) 3 k (omega arith) refl is.0;
  },
  λ x. absurd (is.2 (quarter n dark other (n - 4) (n - 4) (n - 4) 3 h refl (omega arith) x)),
)
turn-read Half n dark other some h k is = (
  record {
    top_left = half n other dark (n - 4) (n - 4) 3 3 k (omega arith) (omega arith) is.3;
    top_right = half n other dark (n - 4) 3 3 (n - 4) k (omega arith) (omega arith) is.2;
    bottom_left = half n other dark 3 (n - 4) (n - 4) 3 k (omega arith) (omega arith) is.1;
  },
  λ x. absurd (is.0 (half n dark other (n - 4) (n - 4) 3 3 h (omega arith) (omega arith) x)),
)
turn-read ThreeQuarters n dark other some h k is = (
  record {
    top_left = quarter n other dark (n - 4) 3 3 3 k refl (omega arith) is.2;
    top_right = quarter n other dark 3 3 3 (n - 4) k refl (omega arith) is.0;
    bottom_left = quarter n other dark (n - 4) (n - 4) (n - 4) 3 k refl (omega arith) is.3;
  },
  λ x. absurd (is.1 (three n dark other (n - 4) (n - 4) 3 (n - 4) h (omega arith) refl x)),
)

-- the finder patterns say how the square is turned
pub turn-one : (t u : Turn) (n : ℕ) (dark : ℕ → ℕ → Bool) → IsTurn n dark t → IsTurn n dark u → t ≡ u
turn-one Upright Upright n dark a b = refl
turn-one Upright Quarter n dark a b = absurd (b.2 a.2)
turn-one Upright Half n dark a b = absurd (b.0 a.0)
turn-one Upright ThreeQuarters n dark a b = absurd (b.1 a.1)
turn-one Quarter Upright n dark a b = absurd (a.2 b.2)
turn-one Quarter Quarter n dark a b = refl
turn-one Quarter Half n dark a b = absurd (b.0 a.0)
turn-one Quarter ThreeQuarters n dark a b = absurd (b.1 a.1)
turn-one Half Upright n dark a b = absurd (a.0 b.0)
turn-one Half Quarter n dark a b = absurd (a.0 b.0)
turn-one Half Half n dark a b = refl
turn-one Half ThreeQuarters n dark a b = absurd (a.0 b.0)
turn-one ThreeQuarters Upright n dark a b = absurd (a.1 b.1)
turn-one ThreeQuarters Quarter n dark a b = absurd (a.1 b.1)
turn-one ThreeQuarters Half n dark a b = absurd (b.0 a.0)
turn-one ThreeQuarters ThreeQuarters n dark a b = refl

-- the turn of colours that agree
pub turn-same : (t : Turn) (n : ℕ) (dark other : ℕ → ℕ → Bool) → ((r c : ℕ) → r < n → c < n → dark r c ≡ other r c) → IsTurn n dark t → IsTurn n other t
turn-same Upright n dark other same a =
    (finder-same n dark other 3 3 same a.0, finder-same n dark other 3 (n - 4) same a.1, finder-same n dark other (n - 4) 3 same a.2)
turn-same Quarter n dark other same a =
    let again : (r c : ℕ) → r < n → c < n → other r c ≡ dark r c = λ r c l m. sym (same r c l m) in (
      finder-same n dark other 3 3 same a.0,
      finder-same n dark other 3 (n - 4) same a.1,
      (λ x. a.2 (finder-same n other dark (n - 4) 3 again x)),
      finder-same n dark other (n - 4) (n - 4) same a.3,
    )
turn-same Half n dark other same a =
    let again : (r c : ℕ) → r < n → c < n → other r c ≡ dark r c = λ r c l m. sym (same r c l m) in (
      (λ x. a.0 (finder-same n other dark 3 3 again x)),
      finder-same n dark other 3 (n - 4) same a.1,
      finder-same n dark other (n - 4) 3 same a.2,
      finder-same n dark other (n - 4) (n - 4) same a.3,
    )
turn-same ThreeQuarters n dark other same a =
    let again : (r c : ℕ) → r < n → c < n → other r c ≡ dark r c = λ r c l m. sym (same r c l m) in (
      finder-same n dark other 3 3 same a.0,
      (λ x. a.1 (finder-same n other dark 3 (n - 4) again x)),
      finder-same n dark other (n - 4) 3 same a.2,
      finder-same n dark other (n - 4) (n - 4) same a.3,
    )

-- ---- modules that are outside of a finder pattern

pub row-outside : (a b r c : ℕ) → a + 5 ≤ r → ring_of a b r c ≤ 4 → ⊥
row-outside a b r c l le = omega arith

pub col-outside : (a b r c : ℕ) → b + 5 ≤ c → ring_of a b r c ≤ 4 → ⊥
col-outside a b r c l le = omega arith
