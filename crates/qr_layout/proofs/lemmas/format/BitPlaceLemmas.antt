-- The places of the bits of the format and version information.
use Rattle.std.proofs.Common.{◌≡◌, ℕ, zero, suc, ◌+◌, ◌-◌, ◌*◌, ◌<◌, ◌≤◌, Bool, true, false, ◌&&◌, ◌||◌, cond, eqb, ltb, leb, None, Some, refl, ap, ◌∙◌, inl, inr, ◌⊎◌, arith}
use Rattle.std.{proofs.lemmas.Bool.{Decides.nat_tests, and_parts, cases_lt, cases_Bool}, specs.List.{find, range_with_len}}
use Rattle.qr_layout.specs.{Version.side_of, Region.is_version_information}
use Rattle.qr_layout.specs.Format.{first_place, second_place, version_place, mirror_of, is_at, format_bit_at, version_bit_at}

-- the only one of n numbers from a on that passes the test is the one that is found
found-some : (n a : ℕ) (p : ℕ → Bool) (i : ℕ) → a ≤ i → i < a + n → p i ≡ true → ((j : ℕ) → a ≤ j → j < a + n → p j ≡ true → j ≡ i) → find p (range_with_len a n) ≡ Some i
found-some zero a p i l k h f = absurd (omega arith)
found-some (suc n) a p i l k h f = elim (cases_Bool (p a)) [
  | inl e ↦ search arith
  | inr e ↦ elim (cases_lt a i) [
    | inl m ↦ rw e (found-some n (a + 1) p i (omega arith) (omega arith) h (λ j b d q. f j (omega arith) (omega arith) q))
    | inr m ↦ search arith
  ]
]

-- if none of n numbers from a on passes the test, none is found
found-none : (n a : ℕ) (p : ℕ → Bool) → ((j : ℕ) → a ≤ j → j < a + n → p j ≡ true → ⊥) → find p (range_with_len a n) ≡ None
found-none zero a p f = refl
found-none (suc n) a p f = elim (cases_Bool (p a)) [
  | inl e ↦ absurd (f a (omega arith) (omega arith) e)
  | inr e ↦ rw e (found-none n (a + 1) p (λ j b d q. f j (omega arith) (omega arith) q))
]

-- the number that is found is one of them and passes the test
found-at : (n a : ℕ) (p : ℕ → Bool) (i : ℕ) → find p (range_with_len a n) ≡ Some i → (i < a + n) × (p i ≡ true)
found-at zero a p i h = cc
found-at (suc n) a p i h = elim (cases_Bool (p a)) [
  | inl e ↦ search arith
  | inr e ↦ search (arith, found-at n (a + 1) p i (rw e at h))
]

-- of the numbers below n, only i may pass the test: it is found if it does
first-one : (n : ℕ) (p : ℕ → Bool) (i : ℕ) → ((j : ℕ) → j < n → p j ≡ true → j ≡ i) → find p (range_with_len 0 n) ≡ cond (ltb i n && p i) (Some i) None
first-one n p i f = elim (cases_Bool (ltb i n && p i)) [
  | inl e ↦
      let w = and_parts (ltb i n) (p i) e in
      rw e (found-some n 0 p i (omega arith) (below i (omega arith) w.0) w.1 (λ j a b q. f j (omega arith) q))
  | inr e ↦ search (arith, found-none)
]
  where
    below : (k : ℕ) → k ≡ i → ltb i n ≡ true → i < 0 + n
    below k e h = grind (arith, nat_tests)

-- the number that is found is below n and passes the test
pub first-at : (n : ℕ) (p : ℕ → Bool) (i : ℕ) → find p (range_with_len 0 n) ≡ Some i → (i < n) × (p i ≡ true)
first-at n p i h = search (arith, found-at)

-- bit i of the format information is at (r, c)
abbrev pub stands : ℕ → ℕ → ℕ → ℕ → Bool
stands s r c i = is_at (first_place i) r c || is_at (second_place s i) r c

-- the only bit that may be at a place of row 8 or column 8
abbrev pub bit_here : ℕ → ℕ → ℕ → ℕ
bit_here s r c = cond (eqb c 8) (cond (ltb r 6) r (cond (ltb r 9) (r - 1) (r + 15 - s))) (cond (eqb c 7) 8 (cond (ltb c 6) (14 - c) (s - 1 - c)))

-- if a bit has its second place here, it is the bit that may be here
second-here : (s r c i : ℕ) → 21 ≤ s → i < 15 → is_at (second_place s i) r c ≡ true → i ≡ bit_here s r c
second-here s r c i l a h = grind (arith, nat_tests)

-- if one of two tests passes, the first or the second passes
pub either : (a b : Bool) → (a || b) ≡ true → (a ≡ true) ⊎ (b ≡ true)
either a b h = grind (arith, nat_tests)

-- the bit of the format information that a place contains
pub format-at : (s r c : ℕ) → 21 ≤ s → format_bit_at s r c ≡ cond (ltb (bit_here s r c) 15 && stands s r c (bit_here s r c)) (Some (bit_here s r c)) None
unfolding format_bit_at
format-at s r c l = first-one 15 (stands s r c) (bit_here s r c) (λ j b k. (search (arith, either, nat_tests, second-here)))

-- column 8
pub format_in_column_8 : (s r : ℕ) → 21 ≤ s → r < s → format_bit_at s r 8
    ≡ cond (ltb r 6) (Some r) (cond (eqb r 6) None (cond (ltb r 9) (Some (r - 1)) (cond (ltb (s - 8) r) (Some (r + 15 - s)) None)))
format_in_column_8 s r l h = format-at s r 8 l ∙ grind (arith, nat_tests)

-- row 8 without column 8
pub format_in_row_8 : (s c : ℕ) → 21 ≤ s → c < s → (c ≡ 8 → ⊥) → format_bit_at s 8 c
    ≡ cond (ltb c 6) (Some (14 - c)) (cond (eqb c 6) None (cond (eqb c 7) (Some 8) (cond (leb (s - 8) c) (Some (s - 1 - c)) None)))
format_in_row_8 s c l h n = format-at s 8 c l ∙ grind (arith, nat_tests)

-- outside row 8 and column 8
pub format_off : (s r c : ℕ) → 21 ≤ s → (r ≡ 8 → ⊥) → (c ≡ 8 → ⊥) → format_bit_at s r c ≡ None
format_off s r c l a d = format-at s r c l ∙ grind (arith, nat_tests)

-- ---- the version information

-- bit i of the version information is at (r, c)
abbrev pub stands_for_version : ℕ → ℕ → ℕ → ℕ → Bool
stands_for_version s r c i = is_at (version_place s i) r c || is_at (mirror_of (version_place s i)) r c

-- the only bit that may be at a place
abbrev version_here : ℕ → ℕ → ℕ → ℕ
version_here s r c = cond (ltb r 6) (3 * r + (c + 11 - s)) (3 * c + (r + 11 - s))

version-here : (s r c i : ℕ) → 21 ≤ s → i < 18 → stands_for_version s r c i ≡ true → i ≡ version_here s r c
version-here s r c i l a h = grind (arith, nat_tests)

-- the bit of the version information that a place contains
pub version_at : (v r c : ℕ) → version_bit_at v r c ≡ cond (is_version_information v r c) (Some (version_here (side_of v) r c)) None
unfolding version_bit_at
version_at v r c =
    let s = side_of v in
    elim (cases_lt v 7) [
      | inl k ↦ search arith
      | inr k ↦
          let t : ltb v 7 ≡ false = grind (arith, nat_tests) in
          let u : leb 7 v ≡ true = grind (arith, nat_tests) in
          rw (t, u) (first-one 18 (stands_for_version s r c) (version_here s r c) (λ j b h. version-here s r c j (omega arith) b h)
          ∙ ap (λ b. cond b (Some (version_here s r c)) None) (search (arith, nat_tests)))
    ]
