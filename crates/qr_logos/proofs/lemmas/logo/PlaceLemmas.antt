-- The index in the final sequence of each codeword of a block.
use Rattle.qr_symbol.proofs.Facts.{part-at, positions-one}
use Rattle.qr_symbol.specs.Interleaving.{Position, block_count, block_len, codeword_at, codeword_count, part_of, ComesBefore, IsGathered, IsPosition, IsPositionOrder}
use Rattle.qr_symbol.specs.declared.interleaving.BlockSizes.{BlockSizes}
use Rattle.std.proofs.Common.{◌≡◌, ℕ, ◌+◌, ◌-◌, ◌*◌, ◌/◌, ◌%◌, ◌<◌, ◌≤◌, cond, ltb, List, map, get_or, refl, sym, ap, subst, ◌∙◌, inl, inr, arith}
use Rattle.std.proofs.{Math.Nat.{div-add-mod, mod-lt, mul-le-mul_left}, lemmas.Nat.{div-mul-add, mod-mul-add}}
use Rattle.std.proofs.lemmas.{Bool.{cases_lt, Decides.nat_tests}, List.{get_or-map, get_or-take}}
use Rattle.std.proofs.lemmas.List.FromFn.{get_or-map-range_with_len, length-map-range_with_len}
use Rattle.std.specs.List.{range_with_len}

-- the position with index p in block b
abbrev pub position : ℕ → ℕ → Position
position p b = record { index = p; block = b }

-- the position of the codeword with index j in the final sequence: first the rows of the codewords that all blocks have,
-- then the last ones of the long blocks
abbrev pub place : BlockSizes → ℕ → Position
place c j =
    cond (ltb j (c.short_len * block_count c)) (position (j / block_count c) (j % block_count c))
    (position c.short_len (c.short + (j - c.short_len * block_count c)))

place-low : (c : BlockSizes) (j : ℕ) → j < c.short_len * block_count c → place c j ≡ position (j / block_count c) (j % block_count c)
place-low c j l = search (arith, nat_tests)

place-high : (c : BlockSizes) (j : ℕ) → c.short_len * block_count c ≤ j → place c j ≡ position c.short_len (c.short + (j - c.short_len * block_count c))
place-high c j l = search (arith, nat_tests)

-- a row has fewer indices than rows before the last ones
row-low : (c : BlockSizes) (p i : ℕ) → p < c.short_len → i < block_count c → p * block_count c + i < c.short_len * block_count c
row-low c p i l r =
    let m : block_count c * (p + 1) ≤ block_count c * c.short_len = mul-le-mul_left (block_count c) (omega arith) in
    omega (arith, m)

place-row : (c : BlockSizes) (p i : ℕ) → p < c.short_len → i < block_count c → place c (p * block_count c + i) ≡ position p i
place-row c p i l r =
    place-low c (p * block_count c + i) (row-low c p i l r)
    ∙ cc (div-mul-add p (block_count c) i r, mod-mul-add p (block_count c) i r)

place-last : (c : BlockSizes) (i : ℕ) → c.short ≤ i → i < block_count c → place c (c.short_len * block_count c + (i - c.short)) ≡ position c.short_len i
place-last c i l r =
    let rows = c.short_len * block_count c in
    let same : c.short + (rows + (i - c.short) - rows) ≡ i = omega arith in
    place-high c (rows + (i - c.short)) (omega arith) ∙ ap (position c.short_len) same

low-index : (k s j : ℕ) → 0 < k → j < s * k → j / k < s
low-index k s j some l = elim (cases_lt (j / k) s) [
  | inl m ↦ m
  | inr m ↦
      let le : k * s ≤ k * (j / k) = mul-le-mul_left k m in
      absurd (omega (arith, le, div-add-mod j k))
]

short-len : (c : BlockSizes) (i : ℕ) → c.short_len ≤ block_len c i
short-len c i = grind (arith, nat_tests)

long-len : (c : BlockSizes) (i : ℕ) → c.short ≤ i → block_len c i ≡ c.short_len + 1
long-len c i l = grind (arith, nat_tests)

-- each index is that of a position
place-in : (c : BlockSizes) (j : ℕ) → 0 < block_count c → j < codeword_count c → IsPosition c (place c j)
place-in c j some l = elim (cases_lt j (c.short_len * block_count c)) [
  | inl m ↦
      let k = block_count c in
      let low = low-index k c.short_len j some m in
      let inside : IsPosition c (position (j / k) (j % k)) = (mod-lt j some, omega (arith, low, short-len c (j % k))) in
      subst (IsPosition c) (sym (place-low c j m)) inside
  | inr m ↦
      let b = c.short + (j - c.short_len * block_count c) in
      let inside : IsPosition c (position c.short_len b) = (omega arith, omega (arith, long-len c b (omega arith))) in
      subst (IsPosition c) (sym (place-high c j m)) inside
]

rows-rise : (k i j : ℕ) → 0 < k → i < j → ComesBefore (position (i / k) (i % k)) (position (j / k) (j % k))
rows-rise k i j some l = elim (cases_lt (i / k) (j / k)) [
  | inl m ↦ inl m
  | inr m ↦ elim (cases_lt (j / k) (i / k)) [
    | inl n ↦
        let le : k * (j / k + 1) ≤ k * (i / k) = mul-le-mul_left k (omega arith) in
        absurd (omega (arith, le, div-add-mod i k, div-add-mod j k, mod-lt j some))
    | inr n ↦
        let same : i / k ≡ j / k = omega arith in
        inr (same, omega (arith, ap (λ (q : ℕ). k * q) same, div-add-mod i k, div-add-mod j k))
  ]
]

-- a later index is that of a later position
place-rises : (c : BlockSizes) (i j : ℕ) → 0 < block_count c → i < j → j < codeword_count c → ComesBefore (place c i) (place c j)
place-rises c i j some l m =
    let k = block_count c in
    let rows = c.short_len * k in elim (cases_lt j rows) [
      | inl s ↦ rw (place-low c i (omega arith), place-low c j s) (rows-rise k i j some l)
      | inr s ↦ elim (cases_lt i rows) [
        | inl t ↦
            let low : ComesBefore (position (i / k) (i % k)) (position c.short_len (c.short + (j - rows))) = inl (low-index k c.short_len i some t) in
            rw (place-low c i t, place-high c j s) low
        | inr t ↦
            let high : ComesBefore (position c.short_len (c.short + (i - rows))) (position c.short_len (c.short + (j - rows))) = inr (refl, omega arith) in
            rw (place-high c i t, place-high c j s) high
      ]
    ]

-- each position has an index
index-of : (c : BlockSizes) (t : Position) → IsPosition c t → (j : ℕ) × (j < codeword_count c) × (place c j ≡ t)
index-of c t h = elim (cases_lt t.index c.short_len) [
  | inl l ↦ (t.index * block_count c + t.block, omega (arith, row-low c t.index t.block l h.0), place-row c t.index t.block l h.0)
  | inr l ↦
      let own = h.1 in
      let from : c.short ≤ t.block = grind (arith, nat_tests, own) in
      let same : c.short_len ≡ t.index = omega (arith, long-len c t.block from, own) in (
        c.short_len * block_count c + (t.block - c.short),
        (let r = h.0 in omega arith),
        place-last c t.block from h.0 ∙ ap (λ (p : ℕ). position p t.block) same,
      )
]

-- the positions of all indices
abbrev all-places : BlockSizes → List Position
all-places c = map (place c) (range_with_len 0 (codeword_count c))

place-at : (c : BlockSizes) (j : ℕ) (d : Position) → j < codeword_count c → get_or (all-places c) j d ≡ place c j
place-at c j d l = get_or-map-range_with_len (place c) 0 (codeword_count c) j j d l (omega arith)

places-order : (c : BlockSizes) → 0 < block_count c → IsPositionOrder c (all-places c)
places-order c some =
    let long = length-map-range_with_len (place c) 0 (codeword_count c) in
    record {
      in_blocks = λ j d l.
          let m : j < codeword_count c = omega (arith, long) in
          subst (IsPosition c) (sym (place-at c j d m)) (place-in c j some m);
      complete = λ t h.
          let w = index-of c t h in
          (w.0, omega (arith, long, w.1), place-at c w.0 t w.1 ∙ w.2);
      rising = λ i j d l m.
          let r : j < codeword_count c = omega (arith, long) in
          rw (place-at c i d (omega arith), place-at c j d r) (place-rises c i j some l r);
    }

-- a codeword that is put back into its block was at its index in the sequence
gathered-at : (c : BlockSizes) (xs ks : List ℕ) (j : ℕ) → 0 < block_count c → IsGathered c xs ks → j < codeword_count c →
    codeword_at c ks (place c j) ≡ get_or xs j 0
gathered-at c xs ks j some g l =
    let n = codeword_count c in
    let one = positions-one c g.positions (all-places c) g.order (places-order c some) in
    let long = length-map-range_with_len (place c) 0 n in
    let first : Position = position 0 0 in
    ap (codeword_at c ks) (sym (place-at c j first l))
    ∙ (sym (get_or-map (codeword_at c ks) (all-places c) j first 0 (omega (arith, long)))
    ∙ (ap (λ (ts : List Position). get_or (map (codeword_at c ks) ts) j 0) (sym one)
    ∙ (ap (λ (zs : List ℕ). get_or zs j 0) g.same ∙ get_or-take n xs j 0 l)))

-- the codewords of block i, by their indices
module _ (c : BlockSizes) (xs ks : List ℕ) (g : IsGathered c xs ks) (i : ℕ) (r : i < block_count c) where
  pub row-item : (p : ℕ) → p < c.short_len → get_or (part_of c ks i) p 0 ≡ get_or xs (p * block_count c + i) 0
  row-item p l =
      let inside : IsPosition c (position p i) = (r, omega (arith, short-len c i)) in
      let low = row-low c p i l r in
      sym (part-at c ks (position p i) inside)
      ∙ (ap (codeword_at c ks) (sym (place-row c p i l r))
      ∙ gathered-at c xs ks (p * block_count c + i) (omega arith) g (omega arith))

  pub last-item : c.short ≤ i → get_or (part_of c ks i) c.short_len 0 ≡ get_or xs (c.short_len * block_count c + (i - c.short)) 0
  last-item from =
      let inside : IsPosition c (position c.short_len i) = (r, omega (arith, long-len c i from)) in
      sym (part-at c ks (position c.short_len i) inside)
      ∙ (ap (codeword_at c ks) (sym (place-last c i from r))
      ∙ gathered-at c xs ks (c.short_len * block_count c + (i - c.short)) (omega arith) g (omega arith))
