-- Drawing along the walk: every place that the walk has passed, or never reaches, has its final colour.
use Rattle.qr_bits.specs.Bits.{codeword_bit}
use Rattle.qr_layout.proofs.Facts.{Mem, order-has, order-mem, order-small, index-at, row-in, col-in, region-role, role-region}
use Rattle.qr_layout.specs.{Order.{IsOrder, in_region_of, index_of}, Region.is_in_region, Strips.{both_of, rows_from, places_of}, Version.side_of}
use Rattle.qr_layout.specs.declared.{level.Level.Level, region.Module.Module, strips.Strip.Strip}
use Rattle.qr_matrix.{proofs.Facts.{square-same, colour-square, colour-transposed}, specs.Grid.{Grid, square, colour, painted, transposed, IsSquare}}
use Rattle.qr_symbol.{proofs.lemmas.placement.ColumnLemmas.row-small, specs.Steps.Patterns.{fixed_colour, format_or}}
use Rattle.qr_symbol.specs.Steps.Placement.{placed_colour, number_after, number_at, IsRowDrawn, masked_colour, masked_grid, region_grid, unmasked_grid}
use Rattle.qr_symbol.specs.{Steps.Spans.row_of, Symbol.{colour_of, grid_of}}
use Rattle.std.proofs.Common.{◌≡◌, ℕ, zero, suc, ◌+◌, ◌-◌, ◌⊎◌, ◌<◌, ◌≤◌, Bool, true, false, cond, List, [], ◌∷◌, ◌++◌, length, length-append, refl, sym, ◌∙◌, ap, inl, inr, subst, append_assoc, append-nil, arith}
use Rattle.std.proofs.lemmas.Bool.{cases_eq, false≢true}

-- drawing the strip x changes the transposed square from `before` to `after`; the strip has the bits from `first` to
-- before `next`
pub record IsStripDrawn (v : ℕ) (cw : List ℕ) (x : Strip) (first : ℕ) (before : Grid) (next : ℕ) (after : Grid) : Type 0 where
  pub number : next ≡ number_at v x first (side_of v)
  pub square : IsSquare (side_of v) after
  pub drawn : (j : ℕ) → j < side_of v
      → IsRowDrawn v cw x first j (colour before x.right (row_of (side_of v) x j)) (colour before (x.right - 1) (row_of (side_of v) x j)) (colour after x.right (row_of (side_of v) x j)) (colour after (x.right - 1) (row_of (side_of v) x j))
  pub kept : (row col : ℕ) → row < side_of v → col < side_of v → (col ≡ x.right → ⊥) → (col ≡ x.right - 1 → ⊥) → colour after col row ≡ colour before col row

-- a place in the region is kept
pub kept-in : (v : ℕ) (m : Module) (ms : List Module) → is_in_region v m.row m.col ≡ true → in_region_of v (m ∷ ms) ≡ m ∷ in_region_of v ms
kept-in v m ms e = ap (λ z. cond z (m ∷ in_region_of v ms) (in_region_of v ms)) e

-- the kept places of two joined lists are those of the first list, followed by those of the second
pub kept-append : (v : ℕ) (xs ys : List Module) → in_region_of v (xs ++ ys) ≡ in_region_of v xs ++ in_region_of v ys
kept-append v [] ys = refl
kept-append v (m ∷ xs) ys = ap (λ (z : List Module). cond (is_in_region v m.row m.col) (m ∷ z) z) (kept-append v xs ys) ∙ front _ m (in_region_of v xs) _
  where
    front : (t : Bool) (m : Module) (xs ys : List Module) → cond t (m ∷ (xs ++ ys)) (xs ++ ys) ≡ cond t (m ∷ xs) xs ++ ys
    front true m xs ys = refl
    front _ m xs ys = refl

-- the places of a list of strips with one strip more
pub places-push : (s : ℕ) (xs : List Strip) (x : Strip) → places_of s (xs ++ x ∷ []) ≡ places_of s xs ++ both_of (rows_from s x 0 s)
places-push s [] x = append-nil (both_of (rows_from s x 0 s))
places-push s (y ∷ ys) x = ap (λ (z : List Module). both_of (rows_from s y 0 s) ++ z) (places-push s ys x) ∙ sym (append_assoc _ (places_of s ys) _)

-- the module in a row and a column
abbrev pub at : ℕ → ℕ → Module
at r c = record { row = r; col = c }

-- each place of the square that is not in the list has its final colour
abbrev pub Done : ℕ → (ℕ → ℕ → Bool) → List Module → Grid → Type 0
Done s want rest g = (r c : ℕ) → r < s → c < s → (Mem (at r c) rest → ⊥) → colour g r c ≡ want r c

-- outside the region the colour stays
pub outside : (v : ℕ) (cw : List ℕ) (f : ℕ → ℕ → Bool) (r c : ℕ) → is_in_region v r c ≡ false → f r c ≡ placed_colour v cw f r c
unfolding placed_colour
outside v cw f r c e = rw e refl

-- inside the region the bit with the place's number is placed
pub inside : (v : ℕ) (cw : List ℕ) (f : ℕ → ℕ → Bool) (r c : ℕ) → is_in_region v r c ≡ true → placed_colour v cw f r c ≡ codeword_bit cw (index_of v (at r c))
unfolding placed_colour
inside v cw f r c e = rw e refl

-- by cases on a test
pub by_test : (b : Bool) (A : Type 0) → (b ≡ true → A) → (b ≡ false → A) → A
by_test true A f g = f refl
by_test false A f g = g refl

-- before the walk, each place that is not in the list is outside the region
pub done-start : (v : ℕ) (want : ℕ → ℕ → Bool) (g : Grid) (ms : List Module) → IsOrder v ms → ((r c : ℕ) → is_in_region v r c ≡ false → colour g r c ≡ want r c) → Done (side_of v) want ms g
done-start v want g ms o f r c l m n = f r c (by_test _ _ (λ t. absurd (n (order-has v ms o _ t))) (λ e. e))

-- an item between two lists is a member of the whole list
pub Mem-mid : {X : Type 0} (x : X) (front back : List X) → Mem x (front ++ x ∷ back)
Mem-mid x [] back = inl refl
Mem-mid x (y ∷ ys) back = inr (Mem-mid x ys back)

-- the next module of the walk is in the region, and its number is the number of modules before it
pub next-number : (v : ℕ) (front later : List Module) (x : Module) (number : ℕ) → IsOrder v (front ++ x ∷ later) → number ≡ length front → (is_in_region v x.row x.col ≡ true) × (index_of v x ≡ number)
next-number v front later x number o k = (order-mem v _ o x (Mem-mid x _ _), index-at v _ _ x o ∙ sym k)

-- a grid that equals a square of colours is a square
pub square-is : (s : ℕ) (f : ℕ → ℕ → Bool) (g : Grid) → g ≡ square s f → IsSquare s g
square-is s f g e = search (arith, square-same, colour-square)

-- the transposed square of a square is a square
pub square-transposed : (s : ℕ) (g : Grid) → IsSquare s g → IsSquare s (transposed g)
square-transposed s g e = search (arith, square-is)

-- a square with one place changed is a square
pub painted-square : (s : ℕ) (g : Grid) (row col : ℕ) (d : Bool) → g.side ≡ s → IsSquare s (painted g row col d)
painted-square s g row col d e = search (arith, square-same, colour-square)

-- the list of all modules, seen at the next module
pub whole-next : (v : ℕ) (front now later : List Module) (x : Module) → IsOrder v (front ++ now) → now ≡ x ∷ later → IsOrder v (front ++ x ∷ later)
whole-next v front now later x o e = subst (λ (ms : List Module). IsOrder v (front ++ ms)) e o

-- the list of all modules, after the next module
pub whole-push : (v : ℕ) (front later : List Module) (x : Module) → IsOrder v (front ++ x ∷ later) → IsOrder v ((front ++ x ∷ []) ++ later)
whole-push v front later x o = search (arith, append_assoc)

-- a module of the order is in the square
pub in-square : (v : ℕ) (front later : List Module) (x : Module) → IsOrder v (front ++ x ∷ later) → (x.row < side_of v) × (x.col < side_of v)
in-square v front later x o = search (arith, order-mem, Mem-mid, row-in, col-in)

-- ---- a symbol that is drawn again with a mask

-- with mask and format information, the result is the symbol of its codewords under this mask
pub masked-all : (v : ℕ) (l : Level) (mask : ℕ) (cw : List ℕ) (region unmasked : Grid) → 1 ≤ v → region ≡ region_grid v → unmasked ≡ unmasked_grid v cw → masked_grid v l mask region unmasked ≡ grid_of v l mask cw
unfolding masked_colour colour_of format_or fixed_colour
masked-all v l mask cw region unmasked k e f = search (arith, square-same, colour-square, region-role, role-region, inside, outside)

-- ---- strips whose modules are drawn

-- after the places in `before`, with those in `later` still to come: the number of the next bit, and the square
pub record IsPlaced (v : ℕ) (cw : List ℕ) (g0 : Grid) (before later : List Module) (number : ℕ) (g : Grid) : Type 0 where
  pub whole : IsOrder v (in_region_of v (before ++ later))
  pub next : number ≡ length (in_region_of v before)
  pub square : IsSquare (side_of v) g
  pub done : Done (side_of v) (placed_colour v cw (colour g0)) (in_region_of v later) g

-- before any place, the number is 0 and the square is unchanged
pub placed-start : (v : ℕ) (cw : List ℕ) (g : Grid) (ms : List Module) → IsSquare (side_of v) g → IsOrder v (in_region_of v ms) → IsPlaced v cw g [] ms 0 g
placed-start v cw g ms s o = search (arith, done-start, outside)

-- one more place takes one more bit if it is in the region
count-push : (v : ℕ) (xs : List Module) (m : Module) → length (in_region_of v (xs ++ m ∷ [])) ≡ number_after
    (is_in_region v m.row m.col) (length (in_region_of v xs))
count-push v xs m = search (arith, kept-append, length-append)

-- the number of a module of the region is the number of those before it
place-number : (v : ℕ) (before later : List Module) (m : Module) → IsOrder v (in_region_of v (before ++ m ∷
    later)) → is_in_region v m.row m.col ≡ true → index_of v m ≡ length (in_region_of v before)
place-number v before later m o t = index-at v _ _ m (rw (kept-append, kept-in v m _ t) at o)

-- the rows of a strip before row j, that row, and those after it
rows-split : (s : ℕ) (x : Strip) (k j m : ℕ) → both_of (rows_from s x k (j + (m + 1))) ≡ both_of (rows_from s x k j) ++
    at (row_of s x (k + j)) x.right ∷ at (row_of s x (k + j)) (x.right - 1) ∷ both_of (rows_from s x (k + j + 1) m)
rows-split s x k zero m =
    let e : 0 + (m + 1) ≡ suc m = omega arith in
    let f : k + 0 ≡ k = omega arith in rw (e, f) refl
rows-split s x k (suc j) m =
    let e : suc j + (m + 1) ≡ suc (j + (m + 1)) = omega arith in search (arith, rows-split s x (k + 1) j m)

-- the places of a strip before row j, that row's, and those after it
strip-split : (s : ℕ) (x : Strip) (j : ℕ) → j < s → both_of (rows_from s x 0 s) ≡ both_of (rows_from s x 0 j)
    ++ at (row_of s x j) x.right ∷ at (row_of s x j) (x.right - 1) ∷ both_of (rows_from s x (j + 1) (s - 1 - j))
strip-split s x j l =
    let e : j + (s - 1 - j + 1) ≡ s = omega arith in
    search (arith, rows-split)

-- the number of the next bit after the first rows of a strip
number-rows : (v : ℕ) (x : Strip) (before : List Module) (j : ℕ)
    → number_at v x (length (in_region_of v before)) j ≡ length (in_region_of v (before ++ both_of (rows_from (side_of v) x 0 j)))
number-rows v x before zero = rw append-nil refl
number-rows v x before (suc j) =
    let p = at (row_of (side_of v) x j) x.right in let q = at (row_of (side_of v) x j) (x.right - 1) in
    let e : j + 1 ≡ suc j = omega arith in let f : 0 + j ≡ j = omega arith in
    let whole : before ++ both_of (rows_from (side_of v) x 0 (suc j)) ≡ ((before ++ (both_of (rows_from (side_of v) x 0 j))) ++ p ∷ []) ++ q ∷ [] = rw (rw (e, f) at (rows-split (side_of v) x 0 j 0)) (simp append_assoc) in
    search (arith, count-push, number-rows v x before j)

-- a kept module of a list is its first module, or kept after it
mem-kept : (v : ℕ) (p m : Module) (ms : List Module) → Mem m (in_region_of v (p ∷ ms))
    → ((p ≡ m) × (is_in_region v m.row m.col ≡ true)) ⊎ Mem m (in_region_of v ms)
mem-kept v p m ms q = search (arith, kept-in)

-- a kept module of a strip and further places is one of the strip's columns, or one of the further places
strip-mem : (v s : ℕ) (x : Strip) (k n : ℕ) (m : Module) (later : List Module) → Mem m (in_region_of v (both_of
    (rows_from s x k n) ++ later)) → (((m.col ≡ x.right) ⊎ (m.col ≡ x.right - 1)) × (is_in_region v m.row m.col
    ≡ true)) ⊎ Mem m (in_region_of v later)
strip-mem v s x k zero m later q = inr q
strip-mem v s x k (suc n) m later q = elim (mem-kept v _ m (at _ _ ∷ both_of (rows_from s x (k + 1) n) ++ later) q) [
  | inl w ↦ inl (inl (ap (λ (z : Module). z.col) (sym w.0)), w.1)
  | inr q ↦ elim (mem-kept v _ m _ q) [
    | inl w ↦ inl (inr (ap (λ (z : Module). z.col) (sym w.0)), w.1)
    | inr q ↦ strip-mem v s x (k + 1) n m _ q
  ]
]

-- one more strip is drawn
pub placed-strip : (v : ℕ) (cw : List ℕ) (g0 a b : Grid) (x : Strip) (before later : List Module) (number next :
    ℕ) → IsSquare (side_of v) a → IsPlaced v cw g0 before (both_of (rows_from (side_of v) x 0 (side_of v)) ++
    later) number (transposed a) → IsStripDrawn v cw x number a next b → IsPlaced v cw g0 (before ++ both_of
    (rows_from (side_of v) x 0 (side_of v))) later next (transposed b)
placed-strip v cw g0 a b x before later number next o p d =
    let s = side_of v in let a-side : a.side ≡ s = ap (λ (z : Grid). z.side) o in
    let b-side : b.side ≡ s = ap (λ (z : Grid). z.side) d.square in record {
      whole = rw append_assoc p.whole;
      next = cc (number-rows v x _ s);
      square = square-transposed s b d.square;
      done = λ r c l m n.
          let kept : (((c ≡ x.right) ⊎ (c ≡ x.right - 1)) × (is_in_region v r c ≡ true) → ⊥) → colour a c r ≡ (placed_colour v cw (colour g0)) r c = λ u.
          sym (colour-transposed a r c (subst (λ n. r < n) (sym a-side) l) (subst (λ n. c < n) (sym a-side) m)) ∙ p.done r c l m (λ q. elim (strip-mem v s x 0 s _ _ q) [ inl w ↦ u w | inr q ↦ n q ]) in
          let j = row_of s x r in let rank = row-small x s r l in
          let bits = rw rank.1 at (d.drawn j rank.0) in let xs = before ++ both_of (rows_from s x 0 j) in
          let i = at r x.right in let k = at r (x.right - 1) in
          let ys = both_of (rows_from s x (j + 1) (s - 1 - j)) ++ later in
          let order : before ++ (both_of (rows_from s x 0 s) ++ later) ≡ xs ++ i ∷ k ∷ ys = rw (rw rank.1 at (strip-split s x j rank.0)) (simp append_assoc) in
          let whole = rw order at p.whole in
          let first : length (in_region_of v xs) ≡ number_at v x number j = sym (ap (λ n. number_at v x n j) p.next ∙ number-rows v x _ j) in
          colour-transposed b r c (subst (λ n. r < n) (sym b-side) l) (subst (λ n. c < n) (sym b-side) m) ∙ elim (cases_eq c _) [
            | inl e ↦ rw e (by_test (is_in_region v r x.right) _
                (λ t. (rw t at bits.0) ∙ (ap (codeword_bit cw) (sym first ∙ sym (place-number v xs _ i whole t)) ∙ sym (inside v cw _ r _ t)))
                (λ t. (rw t at bits.0) ∙ (rw e at kept) (λ w. false≢true (sym t ∙ w.1))))
            | inr e ↦ elim (cases_eq c _) [
              | inl f ↦ rw f (by_test (is_in_region v r (x.right - 1)) _
                  (λ t. (rw t at bits.1) ∙ (ap (codeword_bit cw) (ap (number_after _) (sym first) ∙ (sym (count-push v xs i) ∙ sym (place-number v (xs ++ i ∷ []) ys k (rw (append_assoc xs _ _) whole) t))) ∙ sym (inside v cw _ r _ t)))
                  (λ t. (rw t at bits.1) ∙ (rw f at kept) (λ w. false≢true (sym t ∙ w.1))))
              | inr f ↦ search arith
            ]
          ];
    }

-- the number of the next bit is at most the number of all modules of the region
pub placed-small : (v : ℕ) (cw : List ℕ) (g0 g : Grid) (before later : List Module) (number : ℕ) → 1 ≤ v → v ≤ 40 → IsPlaced v cw g0 before later number g → number ≤ 29648
placed-small v cw g0 g before later number k l p =
    let m = order-small v _ k l p.whole in
    search (arith, kept-append, length-append)

-- after all places, the square has the placed colours
pub placed-end : (v : ℕ) (cw : List ℕ) (g0 g : Grid) (before : List Module) (number : ℕ) → IsPlaced v cw g0 before [] number g → g ≡ square (side_of v) (placed_colour v cw (colour g0))
placed-end v cw g0 g before number p = search (arith, square-same)
