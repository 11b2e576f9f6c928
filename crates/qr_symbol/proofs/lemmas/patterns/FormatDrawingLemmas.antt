-- The format information, drawn bit by bit over a symbol.
use Rattle.qr_layout.{proofs.Facts.{format-only, format-first, format-second}, specs.{Format.{first_place, second_place}, Role.role_of, Version.side_of}}
use Rattle.qr_layout.specs.declared.{region.Module.Module, role.Role.{Role, TheVariants.FormatBit}}
use Rattle.qr_matrix.{proofs.Facts.{same-place, square-same, colour-painted-here, colour-painted-there, colour-square}, specs.BitRow.has_bit}
use Rattle.{qr_matrix.specs.Grid.{Grid, square, colour, painted, with_row, IsSquare}, qr_symbol.specs.{Mask.{inverts, inverted}, Steps.Patterns.format_or}}
use Rattle.std.proofs.Common.{◌≡◌, ◌≢◌, ◌⊎◌, ℕ, ◌+◌, ◌-◌, ◌<◌, ◌≤◌, Bool, true, false, cond, ltb, leb, eqb, ◌&&◌, refl, sym, ◌∙◌, ap, inl, inr, arith}
use Rattle.std.proofs.lemmas.Bool.{cases_eq, cases_lt, Decides.nat_tests}

-- the colour of a module with the role q after the bits before bit n are drawn; `other` is its colour before
unfoldable pub format_bits_or : ℕ → ℕ → Role → Bool → Bool
format_bits_or n format (FormatBit i) other = cond (ltb i n) (has_bit format i) other
format_bits_or n format _ other = other

none-drawn : (format : ℕ) (q : Role) (other : Bool) → other ≡ format_bits_or 0 format q other
unfolding format_bits_or
none-drawn format q other = grind (arith, nat_tests)

-- once bit n is drawn, a module that holds it has its colour
bit-drawn : (n format : ℕ) (q : Role) (other d : Bool) → q ≡ FormatBit n → d ≡ has_bit format n → d ≡ format_bits_or (n + 1) format q other
unfolding format_bits_or
bit-drawn n format q other d e f = search arith

-- drawing bit n does not change a module that does not hold it
bit-kept : (n format : ℕ) (q : Role) (other : Bool) → (q ≡ FormatBit n → ⊥) → format_bits_or n format q other ≡ format_bits_or (n + 1) format q other
unfolding format_bits_or
bit-kept n format q other o = grind arith

-- all fifteen bits are the format information
all-bits : (v format r c : ℕ) (other : Bool) → format_bits_or 15 format (role_of v r c) other ≡ format_or format (role_of v r c) other
unfolding format_bits_or format_or
all-bits v format r c other = parts _ (λ i q. (format-only v _ i q).0)
  where
    parts : (q : Role) → ((i : ℕ) → q ≡ FormatBit i → i < 15) → format_bits_or 15 format q other ≡ format_or format q other
    parts (FormatBit i) f = grind (arith, nat_tests, f i refl)
    parts _ f = refl

-- the bits before bit n are drawn, and no other module is changed
abbrev pub FormatDone : ℕ → ℕ → ℕ → Grid → Grid → Type 0
FormatDone v format n g0 g = (r c : ℕ) → r < side_of v → c < side_of v → colour g r c ≡ format_bits_or n format (role_of v r c) (colour g0 r c)

-- at first no bit is drawn, and the square is unchanged
pub format-start : (v format : ℕ) (g : Grid) → FormatDone v format 0 g g
format-start v format g r c l m = none-drawn format _ _

-- `at` is the place p, which is in a square of side n
pub record IsPlaceIn (n : ℕ) (p at : Module) : Type 0 where
  pub same : at ≡ p
  pub row : at.row < n
  pub col : at.col < n

-- one bit is drawn at its two places
pub format-step : (v format i : ℕ) (g0 g : Grid) (a b : Module) (d : Bool) → 1 ≤ v → v ≤ 40
    → i < 15 → g.side ≡ side_of v → IsPlaceIn (side_of v) (first_place i) a → IsPlaceIn (side_of v) (second_place (side_of v) i) b
    → d ≡ has_bit format i → FormatDone v format i g0 g
    → FormatDone v format (i + 1) g0 (painted (painted g a.row a.col d) b.row b.col d)
format-step v format i g0 g a b d k1 k2 l s at bt ed h r c m n = let eb = bt.same in elim (same-place b.row b.col r c) [
  | inl w ↦
      let q : role_of v b.row b.col ≡ FormatBit i = rw eb (format-second v i k1 k2 l) in
      rw (w.0.0, w.0.1) (colour-painted-here _ _ _ d (omega arith) (omega arith) ∙ bit-drawn i _ _ _ d q ed)
  | inr w ↦ colour-painted-there _ _ _ r c d (omega arith) (omega arith) w.0 ∙ elim (same-place a.row a.col r c) [
    | inl u ↦ search (arith, format-first, colour-painted-here, bit-drawn)
    | inr u ↦ colour-painted-there g _ _ r c d (omega arith) (omega arith) u.0
        ∙ (h r c m n ∙ bit-kept i _ _ _ (λ q. elim (format-only v _ i q).1 [
          | inl f ↦ let e = f ∙ sym at.same in u.0 (ap (λ (z : Module). z.row) e, ap (λ (z : Module). z.col) e)
          | inr f ↦ search arith
        ]))
  ]
]

-- the drawn bits, as a square
pub format-end : (v format : ℕ) (g0 g : Grid) → IsSquare (side_of v) g → FormatDone v format 15 g0 g → g ≡ square (side_of v) (λ r c. format_or format (role_of v r c) (colour g0 r c))
format-end v format g0 g e h = search (arith, square-same, all-bits)

-- ---- in two squares: column 8, and then row 8

-- the bits before bit n are drawn in all rows but row 8. In row 8 a module may have its colour of the format
-- information
abbrev pub FormatDown : ℕ → ℕ → ℕ → Grid → Grid → Type 0
FormatDown v format n g0 g = (r c : ℕ) → r < side_of v → c < side_of v
    → (r ≢ 8 → colour g r c ≡ format_bits_or n format (role_of v r c) (colour g0 r c)) × (format_or format (role_of v r c) (colour g r c) ≡ format_or format (role_of v r c) (colour g0 r c))

-- the square `unmasked` under a mask, without the format information
abbrev pub masked_square : ℕ → ℕ → Grid → Grid → Grid
masked_square v mask region unmasked = square (side_of v) (λ r c. inverted (colour region r c && inverts mask r c) (colour unmasked r c))

-- at first no bit is drawn
pub down-start : (v format : ℕ) (g : Grid) → FormatDown v format 0 g g
down-start v format g r c l m = (λ _. none-drawn format _ _, refl)

-- a module of the format information gets its colour, whatever it was
bit-same : (format i : ℕ) (q : Role) (x y : Bool) → q ≡ FormatBit i → format_or format q x ≡ format_or format q y
unfolding format_or
bit-same format i q x y e = rw e refl

-- of the places of bit i, a is the one in column 8
abbrev pub IsInEight : ℕ → ℕ → Module → Type 0
IsInEight n i a = ((i < 8) × (a ≡ first_place i)) ⊎ ((8 ≤ i) × (a ≡ second_place n i))

-- the other place of a bit is in row 8
eight-only : (v i : ℕ) (a m : Module) → 1 ≤ v → IsInEight (side_of v) i a → role_of v m.row m.col ≡ FormatBit i → m.row ≢ 8 → m ≡ a
eight-only v i a m k at q o = by-place (format-only v m i q).1 at
  where
    by-place : (m ≡ first_place i) ⊎ (m ≡ second_place (side_of v) i) → IsInEight (side_of v) i a → m ≡ a
    by-place (inl f) (inl e) = f ∙ sym e.1
    by-place (inr f) (inr e) = f ∙ sym e.1
    by-place (inl f) (inr e) = absurd (o (ap (λ (z : Module). z.row) f ∙ grind (arith, nat_tests)))
    by-place (inr f) (inl e) = absurd (o (ap (λ (z : Module). z.row) f ∙ grind (arith, nat_tests)))

-- a colour after a row was written
row-written : (n row : ℕ) (g h : Grid) (line : ℕ → Bool) → g.side ≡ n → h ≡ with_row g row line → (r c : ℕ) → r < n → c < n → colour h r c ≡ cond (eqb r row) (line c) (colour g r c)
row-written n row g h line s e r c l m = search (arith, colour-square)

-- a colour after one bit was written into a row
one-written : (row col r c n : ℕ) (f : ℕ → ℕ → Bool) → cond (eqb r row) (cond (leb col c && ltb c (col + 1)) (has_bit n (c - col)) (f row c)) (f r c) ≡ cond (eqb r row && eqb c col) (has_bit n 0) (f r c)
one-written row col r c n f = search (arith, nat_tests)

-- a bit is drawn in column 8
pub down-step : (v format i n : ℕ) (g0 g h : Grid) (a : Module) → 1 ≤ v → v ≤ 40 → i < 15 → g.side ≡ side_of v → IsInEight (side_of v) i a → has_bit n 0 ≡ has_bit format i
    → h ≡ with_row g a.row (λ c. cond (leb a.col c && ltb c (a.col + 1)) (has_bit n (c - a.col)) (colour g a.row c))
    → FormatDown v format i g0 g → FormatDown v format (i + 1) g0 h
down-step v format i n g0 g h a k1 k2 l s at bit e before r c m o =
    let new = row-written (side_of v) a.row g h _ s e r c m o ∙ one-written a.row a.col r c n (colour g) in
    let old = before r c m o in
    elim (same-place a.row a.col r c) [
      | inl w ↦
          let role : role_of v r c ≡ FormatBit i = search (arith, format-first, format-second) in
          (λ _. bit-drawn i format _ _ _ role (new ∙ (rw w.1 bit)), bit-same format i _ _ _ role)
      | inr w ↦
          let same : colour h r c ≡ colour g r c = rw w.1 at new in
          (λ b. same ∙ (old.0 b ∙ bit-kept i format _ _ (λ q. let p = eight-only v i a (record { row = r; col = c }) k1 at q b in search arith)), ap (format_or format (role_of v r c)) same ∙ old.1)
    ]

-- a colour by the role of the module
is-bit : (format i : ℕ) (q : Role) (x y : Bool) → q ≡ FormatBit i → x ≡ has_bit format i → x ≡ format_or format q y
unfolding format_or
is-bit format i q x y e f = rw e f

no-bit : (format : ℕ) (q : Role) (y : Bool) → ((i : ℕ) → q ≡ FormatBit i → ⊥) → y ≡ format_or format q y
unfolding format_or
no-bit format q y h = grind arith

-- the words x, y and z have the bits of the format information in row 8: bits 14 to 9, bits 8 and 7, and bits 7 to 0
pub record AreInRow8 (format x y z : ℕ) : Type 0 where
  pub first : (k : ℕ) → k < 6 → has_bit x k ≡ has_bit format (14 - k)
  pub second : (k : ℕ) → k < 2 → has_bit y k ≡ has_bit format (8 - k)
  pub third : (k : ℕ) → k < 8 → has_bit z k ≡ has_bit format (7 - k)

module _ (v : ℕ) (least : 1 ≤ v) (most : v ≤ 40) (c : ℕ) (inside : c < side_of v) where
  -- the bits that row 8 has in column c
  in-first : (i : ℕ) → 7 ≤ i → i < 15 → cond (ltb i 8) 8 (cond (eqb i 8) 7 (14 - i)) ≡ c → role_of v 8 c ≡ FormatBit i
  in-first i k l e =
      let f : cond (ltb i 6) i (cond (eqb i 6) 7 8) ≡ 8 = grind (arith, nat_tests) in
      cc (format-first v i least most l)

  in-second : (i : ℕ) → i < 8 → side_of v - 1 - i ≡ c → role_of v 8 c ≡ FormatBit i
  in-second i l e =
      let f : cond (ltb i 8) 8 (side_of v - 15 + i) ≡ 8 = grind (arith, nat_tests) in
      let h : cond (ltb i 8) (side_of v - 1 - i) 8 ≡ c = grind (arith, nat_tests) in
      search (arith, format-second)

  -- all other columns have none there
  in-none : ((c ≡ 6) ⊎ (9 ≤ c)) → c < side_of v - 8 → (i : ℕ) → role_of v 8 c ≡ FormatBit i → ⊥
  in-none o k i q = elim (format-only v (record { row = 8; col = c }) i q).1 [
    | inl f ↦ search arith
    | inr f ↦ search arith
  ]

  -- three words that are written into the row are its format information
  pub across-at : (format far x y z : ℕ) (old : Bool) → far ≡ side_of v - 8 → AreInRow8 format x y z
      → cond (leb far c && ltb c (far + 8)) (has_bit z (c - far)) (cond (leb 7 c && ltb c 9) (has_bit y (c - 7)) (cond (leb 0 c && ltb c 6) (has_bit x (c - 0)) old)) ≡ format_or format (role_of v 8 c) old
  across-at format far x y z old ef words = by-column (cases_lt c 6) (cases_lt c 7) (cases_lt c 9) (cases_lt c far)
    where
      by-column : (c < 6) ⊎ (6 ≤ c) → (c < 7) ⊎ (7 ≤ c) → (c < 9) ⊎ (9 ≤ c) → (c < far) ⊎ (far ≤ c)
          → cond (leb far c && ltb c (far + 8)) (has_bit z (c - far)) (cond (leb 7 c && ltb c 9) (has_bit y (c - 7)) (cond (leb 0 c && ltb c 6) (has_bit x (c - 0)) old)) ≡ format_or format (role_of v 8 c) old
      by-column (inl k) _ _ _ =
          let t : (leb far c && ltb c (far + 8)) ≡ false = grind (arith, nat_tests) in
          let u : (leb 7 c && ltb c 9) ≡ false = grind (arith, nat_tests) in
          let w : (leb 0 c && ltb c 6) ≡ true = grind (arith, nat_tests) in
          let e : c - 0 ≡ c = omega arith in
          rw (t, u, w, e) (is-bit format (14 - c) _ _ old (in-first (14 - c) (omega arith) (omega arith) (grind (arith, nat_tests))) (words.first c k))
      by-column (inr k) (inl l) _ _ =
          let t : (leb far c && ltb c (far + 8)) ≡ false = grind (arith, nat_tests) in
          let u : (leb 7 c && ltb c 9) ≡ false = grind (arith, nat_tests) in
          let w : (leb 0 c && ltb c 6) ≡ false = grind (arith, nat_tests) in
          rw (t, u, w) (no-bit format _ old (in-none (inl (omega arith)) (omega arith)))
      by-column (inr _) (inr k) (inl l) _ =
          let t : (leb far c && ltb c (far + 8)) ≡ false = grind (arith, nat_tests) in
          let u : (leb 7 c && ltb c 9) ≡ true = grind (arith, nat_tests) in
          let e : 8 - (c - 7) ≡ 15 - c = omega arith in
          rw (t, u) (is-bit format (15 - c) _ _ old (in-first (15 - c) (omega arith) (omega arith) (grind (arith, nat_tests))) (words.second (c - 7) (omega arith) ∙ ap (has_bit format) e))
      by-column (inr _) (inr _) (inr k) (inl l) =
          let t : (leb far c && ltb c (far + 8)) ≡ false = grind (arith, nat_tests) in
          let u : (leb 7 c && ltb c 9) ≡ false = grind (arith, nat_tests) in
          let w : (leb 0 c && ltb c 6) ≡ false = grind (arith, nat_tests) in
          rw (t, u, w) (no-bit format _ old (in-none (inr k) (omega arith)))
      by-column (inr _) (inr _) (inr k) (inr l) =
          let t : (leb far c && ltb c (far + 8)) ≡ true = grind (arith, nat_tests) in
          let e : 7 - (c - far) ≡ side_of v - 1 - c = omega arith in
          rw t (is-bit format (side_of v - 1 - c) _ _ old (in-second (side_of v - 1 - c) (omega arith) (omega arith)) (words.third (c - far) (omega arith) ∙ ap (has_bit format) e))

-- three words that are written into row 8 are its format information, and no other row is changed
pub across-end : (v format far x y z : ℕ) (g0 g1 g2 g3 : Grid) → 1 ≤ v → v ≤ 40 → g0.side ≡ side_of v → far ≡ side_of v - 8 → AreInRow8 format x y z
    → g1 ≡ with_row g0 8 (λ c. cond (leb 0 c && ltb c 6) (has_bit x (c - 0)) (colour g0 8 c))
    → g2 ≡ with_row g1 8 (λ c. cond (leb 7 c && ltb c 9) (has_bit y (c - 7)) (colour g1 8 c))
    → g3 ≡ with_row g2 8 (λ c. cond (leb far c && ltb c (far + 8)) (has_bit z (c - far)) (colour g2 8 c))
    → g3 ≡ square (side_of v) (λ r c. cond (eqb r 8) (format_or format (role_of v r c) (colour g0 r c)) (colour g0 r c))
across-end v format far x y z g0 g1 g2 g3 k l s ef words e1 e2 e3 =
    let n = side_of v in
    let s1 : g1.side ≡ n = ap (λ (h : Grid). h.side) e1 ∙ s in
    let line1 = λ (c : ℕ). cond (leb 0 c && ltb c 6) (has_bit x (c - 0)) (colour g0 8 c) in
    let line2 = λ (c : ℕ). cond (leb 7 c && ltb c 9) (has_bit y (c - 7)) (colour g1 8 c) in
    let line3 = λ (c : ℕ). cond (leb far c && ltb c (far + 8)) (has_bit z (c - far)) (colour g2 8 c) in
    (e3 ∙ ap (λ m. square m (λ r c. cond (eqb r 8) (line3 c) (colour g2 r c))) (ap (λ (h : Grid). h.side) e2 ∙ s1)) ∙ square-same n _ _ (λ r c i j. elim (cases_eq r 8) [
      | inl e ↦ cc (row-written n 8 g1 g2 line2 s1 e2 8 c (omega arith) j, row-written n 8 g0 g1 line1 s e1 8 c (omega arith) j, across-at v k l c j format far x y z (colour g0 8 c) ef words)
      | inr o ↦
          let t : eqb r 8 ≡ false = grind (arith, nat_tests) in
          cc (row-written n 8 g1 g2 line2 s1 e2 r c i j, row-written n 8 g0 g1 line1 s e1 r c i j)
    ])

-- what is drawn in column 8, and then in row 8, is the format information
pub both-parts : (v format : ℕ) (g0 g h : Grid) → FormatDown v format 15 g0 g
    → h ≡ square (side_of v) (λ r c. cond (eqb r 8) (format_or format (role_of v r c) (colour g r c)) (colour g r c))
    → h ≡ square (side_of v) (λ r c. format_or format (role_of v r c) (colour g0 r c))
both-parts v format g0 g h down e = search (arith, square-same, nat_tests, all-bits)
