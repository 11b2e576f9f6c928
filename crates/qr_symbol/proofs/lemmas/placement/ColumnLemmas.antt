-- The rows of a strip and their indices, its two columns, and rows that are drawn at once.
use Rattle.{qr_bits.specs.Bits.codeword_bit, qr_layout.specs.{Region.is_in_region, Version.side_of, declared.strips.Strip.Strip}}
use Rattle.{qr_matrix.specs.BitRow.{has, has_bit}, qr_symbol.specs.Steps.Placement.{number_after, number_at, AreDrawn, AreLightRows, AreWhole}}
use Rattle.qr_symbol.specs.{Steps.{Spans.{row_of, top_row}, Words.{AreNext, rank_in}}, declared.spans.Columns.Columns}
use Rattle.std.proofs.Common.{◌≡◌, ℕ, zero, suc, ◌+◌, ◌-◌, ◌*◌, ◌<◌, ◌≤◌, Bool, true, cond, eqb, ◌&&◌, List, inl, inr, add-one, arith, false, leb, ltb, ◌||◌, sym, ◌∙◌, ap}
use Rattle.std.proofs.lemmas.Bool.{cases_lt, Decides.nat_tests}

-- a row of the strip is a row of the symbol, and has its own index as the row of that index
pub row-small : (x : Strip) (s k : ℕ) → k < s → (row_of s x k < s) × (row_of s x (row_of s x k) ≡ k)
row-small x s k l = (grind (arith, nat_tests), grind (arith, nat_tests))

-- row m of n rows, by its index from the top
pub run-row : (x : Strip) (s k n m : ℕ) → k + n ≤ s → m < n
    → (row_of s x (k + m) ≡ top_row s x k n + rank_in n x.upward m) × (rank_in n x.upward m < n) × (rank_in n x.upward (rank_in n x.upward m) ≡ m)
run-row x s k n m room l = (grind (arith, nat_tests), grind (arith, nat_tests), grind (arith, nat_tests))

-- a row between these, by its rank
pub run-from : (x : Strip) (s k n i : ℕ) → k + n ≤ s → top_row s x k n ≤ i → i < top_row s x k n + n
    → (row_of s x (k + rank_in n x.upward (i - top_row s x k n)) ≡ i) × (rank_in n x.upward (i - top_row s x k n) < n)
run-from x s k n i room l m =
    let w = run-row x s k n (i - top_row s x k n) room (omega arith) in
    (omega (arith, (run-row x s k n _ room w.1).0, w.2), w.1)

-- ---- rows and their numbers

-- one more row takes the bits of its two modules
pub row-number : (v : ℕ) (x : Strip) (first k n taken one two row : ℕ) (t u : Bool)
    → row ≡ row_of (side_of v) x k → t ≡ is_in_region v row x.right → u ≡ is_in_region v row (x.right - 1)
    → number_at v x first k ≡ n + taken → one ≡ number_after t taken → two ≡ number_after u one
    → number_at v x first (k + 1) ≡ n + two
row-number v x first k n taken one two row t u r p q m e f = search (arith, add-one, nat_tests)

-- if all modules of m rows are in the region, these rows take 2 m bits
pub number-whole : (v : ℕ) (x : Strip) (first k m : ℕ) → ((j : ℕ) → k ≤ j → j < k + m → (is_in_region v
    (row_of (side_of v) x j) x.right ≡ true) × (is_in_region v (row_of (side_of v) x j) (x.right - 1) ≡ true)) →
    number_at v x first (k + m) ≡ number_at v x first k + 2 * m
number-whole v x first k zero w = (let e : k + 0 ≡ k = omega arith in rw e (omega arith))
number-whole v x first k (suc m) w =
    let e : k + suc m ≡ suc (k + m) = omega arith in let here = w (k + m) (omega arith) (omega arith) in
    let before = number-whole v x first k m (λ j a b. w j a (omega arith)) in rw (e, here.0, here.1) (omega arith)

-- ---- drawn rows

-- rows that are drawn after other rows are drawn together with them
pub rows-drawn : {v : ℕ} {cw : List ℕ} {x : Strip} {first k n i m t : ℕ} {p q r : Columns}
    → AreDrawn v cw x first k n p q → AreDrawn v cw x first i m q r → i ≡ k + n → t ≡ n + m
    → i + m ≤ side_of v → AreDrawn v cw x first k t p r
rows-drawn {v} {x = x} {i = i} d e f g room = record {
  drawn = λ j a b. elim (cases_lt j i) [
    | inl l ↦ search arith
    | inr l ↦ search arith
  ];
  kept = search arith;
}

-- one row is drawn, module by module
pub row-drawn : {v : ℕ} {cw : List ℕ} {x : Strip} {first k : ℕ} {old new : Columns} (row n taken one bits : ℕ)
    (t u : Bool) → row ≡ row_of (side_of v) x k → t ≡ is_in_region v row x.right →
    u ≡ is_in_region v row (x.right - 1) → number_at v x first k ≡ n + taken → one ≡ number_after t taken →
    taken < 64 → one < 64 → AreNext cw n bits →
    ((i : ℕ) → has new.right i ≡ cond (t && eqb i row) (has_bit bits (63 - taken)) (has old.right i)) →
    ((i : ℕ) → has new.left i ≡ cond (u && eqb i row) (has_bit bits (63 - one)) (has old.left i)) →
    AreDrawn v cw x first k 1 old new
row-drawn {x = x} {k = k} row n taken one bits t u r p q m o l1 l2 next right left = search (arith, nat_tests)

-- ---- rows that are drawn at once

-- rows of a strip are drawn at once, if all their modules are in the region and light
pub run-drawn : {v : ℕ} {cw : List ℕ} {x : Strip} {first : ℕ} {old new : Columns} (k n bits : ℕ)
    → k + n ≤ side_of v → n ≤ 32 → AreWhole v x k n → AreLightRows (side_of v) x k n old
    → ((i : ℕ) → has new.right i ≡ (has old.right i || leb (top_row (side_of v) x k n) i && (ltb (i - top_row (side_of v) x k n) n && has_bit bits (63 - 2 * rank_in n x.upward (i - top_row (side_of v) x k n)))))
    → ((i : ℕ) → has new.left i ≡ (has old.left i || leb (top_row (side_of v) x k n) i && (ltb (i - top_row (side_of v) x k n) n && has_bit bits (62 - 2 * rank_in n x.upward (i - top_row (side_of v) x k n)))))
    → AreNext cw (number_at v x first k) bits → AreDrawn v cw x first k n old new
run-drawn {v} {cw} {x} {first} {old} {new} k n bits room few whole light right left next = record {
  drawn = λ j a b.
      let s = side_of v in let top = top_row s x k n in
      let m = j - k in let f : k + m ≡ j = omega arith in
      let w = run-row x s k n m room (omega arith) in let i = rank_in n x.upward m in
      let back : top + i - top ≡ i = omega arith in let six : 62 - 2 * m ≡ 63 - (2 * m + 1) = omega arith in
      let dark = light j a b in let here = whole j a b in
      let number : number_at v x first j ≡ number_at v x first k + 2 * m = ap (number_at v x first) (sym f) ∙ number-whole v x first k m (λ h c d. whole h c (omega arith)) in
      grind (arith, nat_tests, codeword_bit);
  kept = λ i apart.
      let s = side_of v in let top = top_row s x k n in
      let out : top ≤ i → i < top + n → ⊥ = λ c d. let w = run-from x s k n i room c d in search arith in
      search (arith, nat_tests);
}

-- if no module of m rows is in the region, these rows take no bits
pub number-none : (v : ℕ) (x : Strip) (first k m : ℕ) → ((j : ℕ) → k ≤ j → j < k + m → (is_in_region v
    (row_of (side_of v) x j) x.right ≡ false) × (is_in_region v (row_of (side_of v) x j) (x.right - 1) ≡ false)) →
    number_at v x first (k + m) ≡ number_at v x first k + 0
number-none v x first k zero w = (let e : k + 0 ≡ k = omega arith in rw e (omega arith))
number-none v x first k (suc m) w =
    let e : k + suc m ≡ suc (k + m) = omega arith in let here = w (k + m) (omega arith) (omega arith) in
    let before = number-none v x first k m (λ j a b. w j a (omega arith)) in rw (e, here.0, here.1) before
