-- The number of positions before a position, and that blocks have only one order of positions.
use Rattle.qr_layout.proofs.Facts.{All-rec, Mem, Mem-at, Mem-of-Contains, Rises-of-pairs, one-rising}
use Rattle.qr_symbol.{proofs.lemmas.interleaving.PositionLemmas.{position, start-next, start-most}, specs.declared.interleaving.BlockSizes.BlockSizes}
use Rattle.qr_symbol.specs.Interleaving.{Position, ComesBefore, block_count, start_of, codeword_count, IsPosition, IsPositionOrder}
use Rattle.std.proofs.Common.{◌≡◌, ℕ, zero, suc, ◌+◌, ◌-◌, ◌*◌, ◌<◌, ◌≤◌, cond, eqb, ltb, List, [], ◌∷◌, map, sym, ◌∙◌, ap, inl, inr, ◌⊎◌, arith}
use Rattle.std.proofs.{Math.Nat.{mul-le-mul_left, mul_comm}, lemmas.Bool.{cases_lt, Decides.nat_tests}}

-- two positions of codewords at the same index of the message are equal
pub position-one : (c : BlockSizes) (t u : Position) → IsPosition c t → IsPosition c u → start_of c t.block + t.index ≡ start_of c u.block + u.index → (t.index ≡ u.index) × (t.block ≡ u.block)
position-one c t u i j e =
    let a = start-next c t.block in
    let b = start-next c u.block in elim (cases_lt t.block u.block) [
      | inl k ↦ absurd (let z = start-most c (t.block + 1) u.block (omega arith) in omega arith)
      | inr k ↦ elim (cases_lt u.block t.block) [
        | inl n ↦ absurd (let z = start-most c (u.block + 1) t.block (omega arith) in omega arith)
        | inr n ↦ search arith
      ]
    ]

-- ---- how many positions come before one

-- the number of positions before one, in closed form
abbrev pub rank_of : BlockSizes → ℕ → ℕ → ℕ
rank_of c p b = cond (ltb p c.short_len) (block_count c * p + b) (cond (eqb p c.short_len) (c.short_len * block_count c + (b - c.short)) (codeword_count c))

-- a codeword is at an index that all blocks have, or it is the last one of a long block
position-cases : (c : BlockSizes) (p b : ℕ) → (IsPosition c (position p b)) → (p < c.short_len) ⊎ ((p ≡ c.short_len) × (c.short ≤ b))
position-cases c p b i = let l = i.1 in grind (arith, nat_tests)

-- after a position, the number of positions is one more
pub rank-push : (c : BlockSizes) (p b : ℕ) → IsPosition c (position p b) → rank_of c p (b + 1) ≡ rank_of c p b + 1
rank-push c p b i = let w = position-cases c p b i in grind (arith, nat_tests)

-- the number of positions before a position is less than the number of all codewords
pub rank-in : (c : BlockSizes) (p b : ℕ) → IsPosition c (position p b) → rank_of c p b < codeword_count c
rank-in c p b i = elim (position-cases c p b i) [
  | inl l ↦
      let m : block_count c * (p + 1) ≤ block_count c * c.short_len = mul-le-mul_left (block_count c) (omega arith) in
      search (arith, mul_comm, nat_tests)
  | inr w ↦ search (arith, nat_tests)
]

-- an index that all blocks have, or that of the last codeword of a long block
abbrev IsRow : BlockSizes → ℕ → ℕ → Type 0
IsRow c p b = (p < c.short_len) ⊎ ((p ≡ c.short_len) × (c.short ≤ b))

-- before a position with a smaller index there are fewer positions
rank-below : (c : BlockSizes) (t u : Position) → t.block < block_count c → IsRow c t.index t.block → IsRow c u.index u.block → t.index < u.index → rank_of c t.index t.block < rank_of c u.index u.block
rank-below c t u i (inl l) (inl m) k = let z : block_count c * (t.index + 1) ≤ block_count c * u.index = mul-le-mul_left (block_count c) (omega arith) in search (arith, nat_tests)
rank-below c t u i (inl l) (inr m) k = let z : block_count c * (t.index + 1) ≤ block_count c * c.short_len = mul-le-mul_left (block_count c) (omega arith) in search (arith, mul_comm, nat_tests)
rank-below c t u i (inr l) (inl m) k = absurd (let e = l.0 in omega arith)
rank-below c t u i (inr l) (inr m) k = absurd (let e = l.0 in let f = m.0 in omega arith)

-- two positions of equal rank are equal
pub rank-one : (c : BlockSizes) (t u : Position) → IsPosition c t → IsPosition c u → rank_of c t.index t.block ≡ rank_of c u.index u.block → (t.index ≡ u.index) × (t.block ≡ u.block)
rank-one c t u i j e = search (arith, nat_tests, position-cases, rank-below)

-- each block has a codeword at an index that all blocks have, and its rank follows from whole rows
pub in-row : (c : BlockSizes) (p b : ℕ) → p < c.short_len → b < block_count c → IsPosition c (position p b) × (block_count c * p + b ≡ rank_of c p b)
in-row c p b l m = search (arith, nat_tests)

-- each long block has one codeword more, and its rank follows from the rows of all blocks
pub in-last-row : (c : BlockSizes) (b : ℕ) → c.short ≤ b → b < block_count c → IsPosition c (position c.short_len b) × (c.short_len * block_count c + (b - c.short) ≡ rank_of c c.short_len b)
in-last-row c b l m = search (arith, nat_tests)

-- ---- only one order

-- of two positions, at most one comes before the other
asym : (t u : Position) → ComesBefore t u → ComesBefore u t → ⊥
asym t u h k = search arith

-- blocks have only one order of positions
pub positions-one : (c : BlockSizes) (ts us : List Position) → IsPositionOrder c ts → IsPositionOrder c us → ts ≡ us
positions-one c ts us h k = one-rising _ asym ts us (Rises-of-pairs _ ts h.rising) (Rises-of-pairs _ us k.rising)
    (λ t m. Mem-of-Contains us t (k.complete t (Mem-at (IsPosition c) ts t (All-rec _ ts h.in_blocks) m)))
    (λ t m. Mem-of-Contains ts t (h.complete t (Mem-at (IsPosition c) us t (All-rec _ us k.in_blocks) m)))

-- each index of the message is that of a position
pub position-of : (c : BlockSizes) (k j : ℕ) → k ≤ block_count c → j < start_of c k → (t : Position) × IsPosition c t × (start_of c t.block + t.index ≡ j)
position-of c zero j l m = absurd (no_start c.short_len)
  where
    no_start : (n : ℕ) → ⊥
    no_start n = absurd (omega arith)
position-of c (suc k) j l m =
    let o : suc k ≡ k + 1 = omega arith in
    let e = start-next c k in elim (cases_lt j (start_of c k)) [
      | inl s ↦ position-of c k j (omega arith) s
      | inr s ↦ (position (j - start_of c k) k, (omega arith, omega arith), omega arith)
    ]

-- two functions that map a list to the same list agree on its members
pub map-at : {X Y : Type 0} (f g : X → Y) (xs : List X) (x : X) → map f xs ≡ map g xs → Mem x xs → f x ≡ g x
map-at f g [] x e m = absurd m
map-at f g (y ∷ ys) x e (inl k) = let h : f y ≡ g y = cc in ap f (sym k) ∙ (h ∙ ap g k)
map-at f g (y ∷ ys) x e (inr m) = let t : map f ys ≡ map g ys = cc in map-at f g ys x t m
