-- Squares that are painted at the places that pass a test.
use Rattle.qr_layout.specs.{Region.{is_alignment, ring_of}, Role.is_alignment_light, declared.region.{Rectangle.Rectangle, Module.Module}}
use Rattle.qr_matrix.{proofs.Facts.{same-place, square-same, colour-square}, specs.Grid.{Grid, square, colour, painted, with_rectangle, IsSquare}}
use Rattle.qr_symbol.{proofs.lemmas.placement.PlacementLemmas.square-is, specs.Steps.Patterns.IsOver}
use Rattle.std.proofs.Common.{◌≡◌, ℕ, ◌+◌, ◌-◌, ◌<◌, Bool, true, false, not, cond, eqb, ltb, leb, ◌&&◌, ◌||◌, List, [], ◌∷◌, length, take, get_or, refl, ◌∙◌, ap, arith}
use Rattle.std.{proofs.lemmas.{Bool.Decides.nat_tests, List.{take_more, Folds.list_any-append}}, specs.List.list_any}

-- a square with these colours
pub over-is : {s : ℕ} {g : Grid} (t f h : ℕ → ℕ → Bool)
    → g ≡ square s (λ r c. cond (t r c) (f r c) (h r c)) → IsOver s t f h g
over-is {s} {g} t f h e = search (arith, square-is, colour-square)

-- the side of a painted square
pub over-side : {s : ℕ} {t f h : ℕ → ℕ → Bool} {g : Grid} → IsOver s t f h g → g.side ≡ s
over-side e = ap (λ (z : Grid). z.side) e.square

-- a painted square whose side is given otherwise
pub over-sized : {n s : ℕ} {t f h : ℕ → ℕ → Bool} {g : Grid} → n ≡ s → IsOver n t f h g → IsOver s t f h g
over-sized e d = search arith

-- painting twice is painting at the places that pass one of the two tests
twice : (t u w x y a b : Bool) → a ≡ cond t x y → b ≡ cond u x a → w ≡ (t || u) → b ≡ cond w x y
twice t u w x y a b e k d = grind (arith, nat_tests)

-- painting a square twice, with the same colours, is painting it once
pub over-twice : {s : ℕ} {t u f h : ℕ → ℕ → Bool} {g g' : Grid} (w : ℕ → ℕ → Bool)
    → IsOver s t f h g → IsOver s u f (colour g) g'
    → ((r c : ℕ) → r < s → c < s → w r c ≡ (t r c || u r c)) → IsOver s w f h g'
over-twice {s} {t} {u} {f} {h} w e k d = search (arith, twice)

-- if no place passes the test, the square is unchanged
pub over-none : {s : ℕ} {t f : ℕ → ℕ → Bool} {g : Grid} → IsSquare s g →
    ((r c : ℕ) → r < s → c < s → t r c ≡ false) → IsOver s t f (colour g) g
over-none e d = search arith

-- two tests that agree paint the same
pub over-same : {s : ℕ} {t u f h : ℕ → ℕ → Bool} {g : Grid} → IsOver s t f h g
    → ((r c : ℕ) → r < s → c < s → t r c ≡ u r c) → IsOver s u f h g
over-same e d = search arith

-- one place is painted
pub over-place : {s : ℕ} (f : ℕ → ℕ → Bool) (g g' : Grid) (row col : ℕ) (d : Bool) → g.side ≡ s
    → d ≡ f row col → g' ≡ painted g row col d → IsOver s (λ r c. eqb r row && eqb c col) f (colour g) g'
over-place f g g' row col d e k p = over-is (λ r c. eqb r row && eqb c col) f _ (search (arith, square-same, same-place))

-- a rectangle is painted in one colour
pub over-rectangle : {s : ℕ} {g' : Grid} {d : Bool} (g : Grid) (top bottom left right : ℕ) → g.side ≡ s
    → g' ≡ with_rectangle g top bottom left right d
    → IsOver s (λ r c. leb top r && ltb r bottom && leb left c && ltb c right) (λ _ _. d) (colour g) g'
over-rectangle {d = d} g top bottom left right e k = over-is (λ r c. leb top r && ltb r _ && leb _ c && ltb c _) (λ _ _. d) _ (rw (← e) k)

-- the test of one more item in a list
any-more : {X : Type 0} (p : X → Bool) (xs : List X) (i : ℕ) (d : X) → i < length xs → list_any p (take (i + 1) xs) ≡ (list_any p (take i xs) || p (get_or xs i d))
any-more p xs i d l = ap (list_any p) (take_more xs i d l) ∙ (list_any-append p (take i xs) (get_or xs i d ∷ []) ∙ ap (λ z. list_any p (take i xs) || z) (or-false _))
  where
    or-false : (b : Bool) → (b || false) ≡ b
    or-false true = refl
    or-false _ = refl

-- painting the places of one more item in a list
pub over-item : {X : Type 0} {s : ℕ} {f h : ℕ → ℕ → Bool} {g g' : Grid} (p : X → ℕ → ℕ
    → Bool) (xs : List X) (i : ℕ) (d : X) → i < length xs
    → IsOver s (λ r c. list_any (λ x. p x r c) (take i xs)) f h g → IsOver s (p (get_or xs i d)) f (colour g) g'
    → IsOver s (λ r c. list_any (λ x. p x r c) (take (i + 1) xs)) f h g'
over-item p xs i d l e k = over-twice (λ r c. list_any (λ x. p x r c) (take (i + 1) xs)) e k (λ r c _ _. any-more (λ x. p x r c) xs i d l)

-- a rectangle that stands in for an index past the end of a list
abbrev pub no_rectangle : Rectangle
no_rectangle = record { top = 0; bottom = 0; left = 0; right = 0 }

-- ---- the rings round a centre

-- the places of a square are at most this far from its centre
pub square-rings : (a b d r c : ℕ) → (leb (a - d) r && ltb r (a + d + 1) && leb (b - d) c && ltb c (b + d + 1)) ≡ leb (ring_of a b r c) d
square-rings a b d r c = grind (arith, nat_tests)

pub over-ring : {s : ℕ} {g' g'' : Grid} (g : Grid) (a b : ℕ) →
    IsOver s (λ r c. leb (ring_of a b r c) 1) (λ _ _. false) (colour g) g' →
    g'' ≡ painted g' a b (colour g a b) → IsOver s (λ r c. eqb (ring_of a b r c) 1) (λ _ _. false) (colour g) g''
over-ring g a b e p = let d = over-place (colour g) _ _ a b _ (over-side e) refl p in
    grind (arith, nat_tests)

-- ---- tests with other brackets

-- a place that is in no rectangle and in no alignment pattern is in the region
pub region-tests : (a e : Bool) → cond e false (cond a false true) ≡ not (a || e)
region-tests a e = grind (arith, nat_tests)

-- a place outside all rectangles and alignment patterns keeps its colour
pub fixed-tests : (a b d e l x w t : Bool) → t ≡ not (((a || b) || d) || e) → (l ≡ true → e ≡ true) → (a ≡ false → b ≡ false → d ≡ false → e ≡ true → x ≡ not l) → cond d x (cond b x (cond a x (cond l false (cond e true w)))) ≡ cond t w x
fixed-tests a b d e l x w t r i h = grind (arith, nat_tests)

-- a place in the light ring of an alignment pattern is in the alignment pattern
pub light-inside : (v r c : ℕ) → is_alignment_light v r c ≡ true → is_alignment v r c ≡ true
unfolding is_alignment_light
light-inside v r c h = rings _ h
  where
    ring : (n : ℕ) → eqb n 1 ≡ true → leb n 2 ≡ true
    ring n e = grind (arith, nat_tests)

    first : (p q a b : Bool) → (p ≡ true → q ≡ true) → (a ≡ true → b ≡ true) → (p || a) ≡ true → (q || b) ≡ true
    first true q a b f g e = rw (f refl) refl
    first _ true a b f g e = refl
    first _ _ a b f g e = g e

    rings : (ms : List Module) → list_any (λ m. eqb (ring_of m.row m.col r c) 1) ms ≡ true → list_any (λ m. leb (ring_of m.row m.col r c) 2) ms ≡ true
    rings [] e = cc
    rings (m ∷ ms) e = first _ _ _ _ (ring _) (rings ms) e
