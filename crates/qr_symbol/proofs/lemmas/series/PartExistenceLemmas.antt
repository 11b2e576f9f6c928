-- Every input has parts: it is decidable whether a prefix fits, so there is a longest one. Inputs that are too long
-- have no series.
use Rattle.qr_bits.{proofs.Facts.{CoversInTurn, assignment-length, empty-fits, from-turn, in-turn}, specs.Interpretation.{characters_in, doubled, MayWrite}}
use Rattle.qr_bits.specs.{Modes.may_use, Padding.room_of, Segmentation.{bits, runs_of, Covers, IsAssignment, HasFit, IsLongestFit}}
use Rattle.qr_bits.specs.declared.{interpretation.Interpretation.Interpretation, modes.Mode.{Mode, TheVariants.{Numeric, Alphanumeric, Byte, Kanji}}}
use Rattle.{qr_bits.specs.declared.{modes.Rule.Rule, segmentation.Segment.Segment}, qr_layout.specs.declared.level.Level.Level}
use Rattle.qr_symbol.proofs.lemmas.{series.PartLemmas.{one-fits, needs-parts, parts-long}, version_choice.version-short}
use Rattle.qr_symbol.specs.Series.{AreParts, HasNoSeries, NeedsParts}
use Rattle.std.proofs.Common.{◌≡◌, ℕ, zero, suc, ◌<◌, ◌≤◌, ◌⊎◌, Bool, false, List, [], ◌∷◌, length, take, drop, refl, inl, inr, length-drop, arith, ◌*◌}
use Rattle.std.{proofs.lemmas.Bool.cases_lt, specs.Prelude.IsTrue}

-- a fact is decided if it holds or does not hold
abbrev Decided : Type 0 → Type 0
Decided A = A ⊎ (A → ⊥)

-- if two facts are decided, so are both together
both : (A B : Type 0) → Decided A → Decided B → Decided (A × B)
both A B h d = grind arith

-- a test is decided
true-or-not : (b : Bool) → Decided (IsTrue b)
true-or-not b = grind arith

-- it is decided whether one number is at most another
most-or-not : (m n : ℕ) → Decided (m ≤ n)
most-or-not m n = search arith

-- it is decided whether segments take all of the bytes, one segment after another
in-turn-or-not : (xs : List ℕ) (segs : List Segment) → Decided (CoversInTurn xs segs)
unfolding CoversInTurn
in-turn-or-not [] [] = inl refl
in-turn-or-not (x ∷ xs) [] = inr (λ e. cc)
in-turn-or-not xs (s ∷ ss) = search (arith, both, most-or-not, true-or-not, in-turn-or-not (drop s.len xs) ss)

-- it is decided whether segments cover the bytes
covers-or-not : (xs : List ℕ) (segs : List Segment) → Decided (Covers xs segs)
covers-or-not xs segs = search (arith, in-turn-or-not, from-turn, in-turn)

-- some list that begins with this mode has a property, or none with n modes after it has
abbrev Begun : (List Mode → Type 0) → ℕ → Mode → Type 0
Begun P n m = ((ks : List Mode) × P (m ∷ ks)) ⊎ ((ks : List Mode) → length ks ≡ n → P (m ∷ ks) → ⊥)

-- some list of n modes has a decided property, or no such list has it
some-modes : (n : ℕ) (P : List Mode → Type 0) → ((ms : List Mode) → Decided (P ms)) → ((ms : List Mode) × P ms) ⊎ ((ms : List Mode) → length ms ≡ n → P ms → ⊥)
some-modes zero P d = elim (d []) [ inl p ↦ inl ([], p) | inr q ↦ inr (empty q) ]
  where
    empty : (P [] → ⊥) → (ms : List Mode) → length ms ≡ 0 → P ms → ⊥
    empty q [] e p = q p
    empty q (m ∷ ms) e p = absurd (omega arith)
some-modes (suc n) P d =
    let first = λ (m : Mode). some-modes n (λ ks. P (m ∷ ks)) (λ ks. d (m ∷ ks)) in pick (first Numeric) (first Alphanumeric) (first Byte) (first Kanji)
  where
    none : ((ks : List Mode) → length ks ≡ n → P (Numeric ∷ ks) → ⊥) → ((ks : List Mode) → length ks ≡ n → P (Alphanumeric ∷ ks) → ⊥)
        → ((ks : List Mode) → length ks ≡ n → P (Byte ∷ ks) → ⊥) → ((ks : List Mode) → length ks ≡ n → P (Kanji ∷ ks) → ⊥)
        → (ms : List Mode) → length ms ≡ suc n → P ms → ⊥
    none a b e f [] l p = absurd (omega arith)
    none a b e f (Numeric ∷ ks) l p = a ks (omega arith) p
    none a b e f (Alphanumeric ∷ ks) l p = b ks (omega arith) p
    none a b e f (Byte ∷ ks) l p = e ks (omega arith) p
    none a b e f (Kanji ∷ ks) l p = f ks (omega arith) p

    pick : Begun P n Numeric → Begun P n Alphanumeric → Begun P n Byte → Begun P n Kanji
        → ((ms : List Mode) × P ms) ⊎ ((ms : List Mode) → length ms ≡ suc n → P ms → ⊥)
    pick (inl p) b e f = inl (Numeric ∷ p.0, p.1)
    pick a (inl p) e f = inl (Alphanumeric ∷ p.0, p.1)
    pick a b (inl p) f = inl (Byte ∷ p.0, p.1)
    pick a b e (inl p) = inl (Kanji ∷ p.0, p.1)
    pick (inr a) (inr b) (inr e) (inr f) = inr (none a b e f)

-- it is decided whether bytes fit
fits-or-not : (how : Interpretation) (v : ℕ) (r : Rule) (xs : List ℕ) (n : ℕ) → Decided (HasFit how v r xs n)
fits-or-not how v r xs n =
    elim (some-modes (length xs) (λ ms. IsAssignment how r xs ms × (bits v (runs_of (doubled how xs ms)) ≤ n)) (λ ms. both (IsAssignment how r xs ms) (bits v _ ≤ n)
    (both _ _ (true-or-not _) (covers-or-not (characters_in how xs ms) _)) (most-or-not _ n))) [
      | inl p ↦ inl (p.0, p.1.0, p.1.1)
      | inr q ↦ search (arith, assignment-length)
    ]

-- if no prefix longer than k fits, there is a longest prefix of at most k bytes that fits
longest-to : (how : Interpretation) (v : ℕ) (r : Rule) (xs : List ℕ) (room k : ℕ) → k ≤ length xs → ((j : ℕ) → k < j → j ≤ length xs → HasFit how v r (take j xs) room → ⊥) → (n : ℕ) × IsLongestFit how v r xs room n
longest-to how v r xs room zero l none = (
  0,
  record {
    inside = omega arith;
    fits = empty-fits how v r _;
    longest = λ j i h. elim (cases_lt 0 j) [ inl p ↦ absurd (none j p i h) | inr p ↦ p ];
  },
)
longest-to how v r xs room (suc k) l none = elim (fits-or-not how v r _ _) [
  | inl h ↦ (
    suc k,
    record {
      inside = l;
      fits = h;
      longest = λ j i g. elim (cases_lt (suc k) j) [ inl p ↦ absurd (none j p i g) | inr p ↦ p ];
    },
  )
  | inr q ↦ longest-to how v r xs _ k (omega arith) (λ j p i g. elim (cases_lt (suc k) j) [
    | inl s ↦ none j s i g
    | inr s ↦ let e : j ≡ suc k = omega arith in search arith
  ])
]

-- bytes have parts, if a bound for their number is known
parts-to : (most v : ℕ) (l : Level) (r : Rule) (how : Interpretation) (x : List ℕ) → 1 ≤ v → v ≤ 40 → length x ≤ most → (parts : List (List ℕ)) × AreParts v l r how x parts
unfolding AreParts
parts-to most v l r how [] p q h = ([], refl)
parts-to zero v l r how (b ∷ bs) p q h = absurd (omega arith)
parts-to (suc most) v l r how (b ∷ bs) p q h =
    let x = b ∷ bs in
    let found = longest-to how v r x (room_of v l how) (length x) (omega arith) (λ j a d g. absurd (omega arith)) in
    let n = found.0 in
    let some : 1 ≤ n = found.1.longest 1 (omega arith) (one-fits v l r how (b ∷ []) p q (omega arith)) in
    let rest = parts-to most v l r how (drop n x) p q (let d = length-drop n x in omega arith) in
    (take n x ∷ rest.0, (n, some, found.1, refl, rest.1))

pub parts-there : (v : ℕ) (l : Level) (r : Rule) (how : Interpretation) (x : List ℕ) → 1 ≤ v → v ≤ 40 → (parts : List (List ℕ)) × AreParts v l r how x parts
parts-there v l r how x p q = parts-to (length x) v l r how x p q (omega arith)

-- an input of more than 16 times 7,089 bytes has no series
pub long-refused : (x : List ℕ) (l : Level) (b : Rule) (how : Interpretation) (v : ℕ) → 1 ≤ v → v ≤ 40 → 7089 * 16 < length x → HasNoSeries v l b how x
long-refused x l b how v i j long = record {
  too_long = λ fits. omega (arith, version-short v l b how x i j fits);
  too_many = search (arith, parts-long);
}

-- without kanji mode, an input that has no series needs more than 16 parts
pub none-shorter : (x : List ℕ) (l : Level) (b : Rule) (how : Interpretation) (v : ℕ) → 1 ≤ v → v ≤ 40
    → MayWrite how x → may_use b Kanji ≡ false → HasNoSeries v l b how x → NeedsParts v l b how x 17
none-shorter x l b how v i j may no_kanji none qs cut = search (arith, needs-parts, parts-there v l b how x i j)
