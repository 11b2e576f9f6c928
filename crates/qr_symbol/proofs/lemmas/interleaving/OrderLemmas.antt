-- The order of the positions, by their ranks, and what it makes of codewords that were put at their ranks.
use Rattle.std.proofs.Math.Nat.{mul-suc, mul_comm}
use Rattle.std.proofs.lemmas.Bool.Decides.{nat_tests}
use Rattle.std.proofs.Common.{◌≡◌, ℕ, zero, suc, ◌+◌, ◌-◌, ◌<◌, ◌≤◌, List, [], ◌∷◌, ◌++◌, map, take, length, length-append, get_or, set, replicate, refl, sym, ◌∙◌, ap, subst, inl, inr, ◌⊎◌, arith}
use Rattle.qr_symbol.{specs.declared.interleaving.BlockSizes.BlockSizes, proofs.lemmas.interleaving.CheckLemmas.map-each}
use Rattle.std.proofs.lemmas.{Bool.cases_lt, List.{get_or_append_left, get_or-append_right, get_or-set_other, get_or-set_same, length-map, length-replicate, length-take, map-append, take_more}}
use Rattle.qr_symbol.specs.Interleaving.{IsPositionOrder, Position, block_count, block_len, start_of, codeword_count, IsPosition, codeword_at, IsGathered}
use Rattle.qr_symbol.proofs.lemmas.interleaving.PositionLemmas.{position, PositionsBefore, positions-push, positions-pass, positions-row, positions-end, position-in}
use Rattle.qr_symbol.proofs.lemmas.interleaving.RankLemmas.{position-one, position-of, positions-one, rank_of, rank-in, rank-one, rank-push}

-- the item of an interleaved list for a position
abbrev pub item_at : BlockSizes → List ℕ → Position → ℕ
item_at c interleaved t = get_or interleaved (rank_of c t.index t.block) 0

-- ---- all positions, in their order

-- the positions before the position (p, b) have the first items of the list
record OrderedBefore (c : BlockSizes) (interleaved : List ℕ) (p b : ℕ) : Type 0 where
  positions : List Position
  order : PositionsBefore c p b positions
  same : map (item_at c interleaved) positions ≡ take (rank_of c p b) interleaved

-- one block more
ordered-next : (c : BlockSizes) (interleaved : List ℕ) (p b : ℕ) → codeword_count c ≤ length interleaved → p ≤ c.short_len → b < block_count c → OrderedBefore c interleaved p b → OrderedBefore c interleaved p (b + 1)
ordered-next c interleaved p b n l m h = elim (cases_lt p (block_len c b)) [
  | inl k ↦
      let t : IsPosition c (position p b) = (m, k) in
      let below = rank-in c p b t in record {
        positions = h.positions ++ position p b ∷ [];
        order = positions-push c p b _ t h.order;
        same = search (arith, map-append, position, take_more, rank_of, rank-push);
      }
  | inr k ↦
      let none : IsPosition c (position p b) → ⊥ = λ t. absurd (let j = t.1 in omega arith) in record {
        positions = h.positions;
        order = positions-pass c p b _ none h.order;
        same = search (arith, nat_tests);
      }
]

-- all blocks at one index
ordered-across : (c : BlockSizes) (interleaved : List ℕ) (p b : ℕ) → codeword_count c ≤ length interleaved → p ≤ c.short_len → b ≤ block_count c → OrderedBefore c interleaved p 0 → OrderedBefore c interleaved p b
ordered-across c interleaved p zero n l m h = h
ordered-across c interleaved p (suc b) n l m h = let e : b + 1 ≡ suc b = omega arith in
    search (arith, ordered-next, ordered-across c _ p b n l (omega arith) h)

-- all indices
ordered-down : (c : BlockSizes) (interleaved : List ℕ) (p : ℕ) → codeword_count c ≤ length interleaved → p ≤ c.short_len + 1 → OrderedBefore c interleaved p 0
ordered-down c interleaved zero n l = search (arith, nat_tests)
ordered-down c interleaved (suc p) n l =
    let h = ordered-across c _ p (block_count c) n (omega arith) (omega arith) (ordered-down c interleaved p n (omega arith)) in
    let e : p + 1 ≡ suc p = omega arith in
    subst (λ (k : ℕ). OrderedBefore c interleaved k 0) e (record { positions = h.positions; order = positions-row c p _ h.order; same = search (arith, mul-suc, mul_comm, nat_tests) })

-- ---- codewords at their ranks

-- the codewords of the first `b` blocks, and the first `p` of the next block, are at their ranks in an interleaved list
abbrev pub IsPlaced : BlockSizes → ℕ → ℕ → List ℕ → List ℕ → Type 0
IsPlaced c b p interleaved xs = (t : Position) → IsPosition c t → (t.block < b) ⊎ ((t.block ≡ b) × (t.index < p)) → item_at c interleaved t ≡ codeword_at c xs t

-- after the last codeword of a block, the next block begins
pub placed-block : (c : BlockSizes) (b p : ℕ) (interleaved xs : List ℕ) → block_len c b ≤ p → IsPlaced c b p interleaved xs → IsPlaced c (b + 1) 0 interleaved xs
placed-block c b p interleaved xs l h t i (inl k) = search arith
placed-block c b p interleaved xs l h t i (inr w) = absurd (let k = w.1 in omega arith)

-- a position is an earlier one, or the one that comes next
later-cases : (t : Position) (b p : ℕ) → (t.block < b) ⊎ ((t.block ≡ b) × (t.index < p + 1)) → ((t.block < b) ⊎ ((t.block ≡ b) × (t.index < p))) ⊎ ((t.block ≡ b) × (t.index ≡ p))
later-cases t b p (inl l) = inl (inl l)
later-cases t b p (inr w) = search arith

-- no earlier position is the one that comes next
earlier-other : (t : Position) (b p : ℕ) → (t.block < b) ⊎ ((t.block ≡ b) × (t.index < p)) → t.index ≡ p → t.block ≡ b → ⊥
earlier-other t b p (inl l) e f = absurd (omega arith)
earlier-other t b p (inr w) e f = absurd (let l = w.1 in omega arith)

-- one codeword more is put in interleaved order
pub placed-interleaved : (c : BlockSizes) (b p : ℕ) (interleaved xs : List ℕ) (i x : ℕ) → codeword_count c ≤ length interleaved → IsPosition c (position p b) → i ≡ rank_of c p b → x ≡ codeword_at c xs (position p b) → IsPlaced c b p interleaved xs → IsPlaced c b (p + 1) (set interleaved i x) xs
placed-interleaved c b p interleaved xs i x n u e f h t k w =
    let below = rank-in c p b u in elim (later-cases t b p w) [
      | inl s ↦ get_or-set_other interleaved i (rank_of c t.index t.block) x 0 (λ q. let z = rank-one c t (position p b) k u (q ∙ e) in earlier-other t b p s z.0 z.1) ∙ h t k s
      | inr s ↦ search (arith, rank_of, get_or-set_same)
    ]

-- one codeword more is put back into its block
pub placed-gathered : (c : BlockSizes) (b p : ℕ) (interleaved xs : List ℕ) (i x : ℕ) → length xs ≡ codeword_count c → IsPosition c (position p b) → i ≡ start_of c b + p → x ≡ item_at c interleaved (position p b) → IsPlaced c b p interleaved xs → IsPlaced c b (p + 1) interleaved (set xs i x)
placed-gathered c b p interleaved xs i x n u e f h t k w =
    let inside = position-in c p b u in elim (later-cases t b p w) [
      | inl s ↦ h t k s ∙ sym (get_or-set_other xs i (start_of c t.block + t.index) x 0 (λ q. let z = position-one c t (position p b) k u (q ∙ e) in earlier-other t b p s z.0 z.1))
      | inr s ↦ search (arith, get_or-set_same)
    ]

-- after the last block, all codewords are at their ranks
pub placed-end : (c : BlockSizes) (b : ℕ) (interleaved xs : List ℕ) → length xs ≡ codeword_count c → codeword_count c ≤ length interleaved → b ≡ block_count c → IsPlaced c b 0 interleaved xs → IsGathered c interleaved xs
placed-end c b interleaved xs l n e h =
    let o = ordered-down c interleaved (c.short_len + 1) n (omega arith) in
    let order = positions-end c o.positions o.order in
    let whole : map (item_at c interleaved) o.positions ≡ take (codeword_count c) interleaved = search (arith, nat_tests) in record {
      long = l;
      positions = o.positions;
      order = order;
      many = search (arith, length-map, length-take);
      same = sym (map-each (IsPosition c) _ _ o.positions order.in_blocks (λ t i. h t i (inl (let m = i.0 in omega arith)))) ∙ whole;
    }

-- ---- every sequence can be gathered

-- what exists for each index makes a list
list-of : (P : ℕ → ℕ → Type 0) (n : ℕ) → ((j : ℕ) → j < n → (x : ℕ) × P j x) → (xs : List ℕ) × (length xs ≡ n) × ((j : ℕ) → j < n → P j (get_or xs j 0))
list-of P zero f = ([], refl, λ j l. absurd (omega arith))
list-of P (suc n) f =
    let w = list-of P n (λ j l. f j (omega arith)) in
    let v = f n (omega arith) in
    let old = λ (j : ℕ) (s : j < n). get_or_append_left w.0 (v.0 ∷ []) 0 j (omega (arith, w.1)) in
    let none : n - n ≡ 0 = omega arith in
    let here : get_or (w.0 ++ v.0 ∷ []) n 0 ≡ v.0 = get_or-append_right w.0 (v.0 ∷ []) n n 0 w.1 (omega arith) ∙ ap (λ i. get_or (v.0 ∷ []) i 0) none in (
      w.0 ++ v.0 ∷ [],
      length-append w.0 (v.0 ∷ []) ∙ omega (arith, w.1),
      λ j l. elim (cases_lt j n) [
        | inl s ↦ subst (P j) (sym (old j s)) (w.2 j s)
        | inr s ↦ search arith
      ],
    )

-- a sequence with at least as many codewords as the blocks can be gathered
pub gather-some : (c : BlockSizes) (interleaved : List ℕ) → codeword_count c ≤ length interleaved → (xs : List ℕ) × IsGathered c interleaved xs
gather-some c interleaved n =
    let w = list-of (λ j x. (t : Position) → IsPosition c t → start_of c t.block + t.index ≡ j → item_at c interleaved t ≡ x) (codeword_count c) (λ j l.
    let u = position-of c (block_count c) j (omega arith) l in (
      item_at c interleaved u.0,
      λ t i e.
          let z = position-one c t u.0 i u.1 (e ∙ sym u.2) in cc,
    )) in
    (w.0, placed-end c (block_count c) interleaved w.0 w.1 n refl (λ t i s. w.2 _ (position-in c t.index t.block i) t i refl))

-- an order of positions has one position for each codeword
pub positions-many : (c : BlockSizes) (ts : List Position) → IsPositionOrder c ts → length ts ≡ codeword_count c
positions-many c ts h =
    let w = gather-some c (replicate (codeword_count c) 0) (omega (arith, length-replicate {A = ℕ})) in
    cc (positions-one c ts _ h w.1.order)
