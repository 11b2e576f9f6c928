-- How many codewords of a block are marked.
use Rattle.qr_layout.{proofs.Facts.{blocks-sound, laws-of}, specs.{Blocks.blocks_of, Version.total_codewords_of, declared.{blocks.Blocks.Blocks, level.Level.Level}}}
use Rattle.{qr_matrix.specs.Sums.count_below, qr_logos.proofs.lemmas.logo.PlaceLemmas.{last-item, row-item}}
use Rattle.{qr_mending.specs.Message.{received, AreIndices}, qr_symbol.proofs.Facts.{gather-some, part-len, sizes-whole}}
use Rattle.qr_symbol.specs.Interleaving.{block_count, block_len, blocks_in, codeword_count, correction_sizes, data_sizes, part_of, IsGathered}
use Rattle.qr_logos.specs.{Logo.{covered_in, is_covered, IsMostCovered}, Steps.Logo.{data_len, marked_among, marked_in, AreMarks}}
use Rattle.std.proofs.Common.{◌≡◌, ℕ, zero, suc, ◌+◌, ◌-◌, ◌*◌, ◌<◌, ◌≤◌, Bool, true, false, cond, ltb, max, List, take, drop, length, length-drop, get_or, refl, sym, ap, ◌∙◌, inl, inr, ◌⊎◌, arith}
use Rattle.std.proofs.{Math.Nat.mul-le-mul_left, lemmas.{Bool.{cases_lt, Decides.nat_tests}, List.{get_or-drop, take_all}}}
use Rattle.std.proofs.lemmas.List.{FromFn.{get_or-range_with_len, length-range_with_len}, Sums.{sum_by-append, sum_by_more}}
use Rattle.std.specs.List.{count_by, range_with_len}

-- ---- counting

-- the items that pass a test, counted by their indices
count-take : (h : ℕ → Bool) (xs : List ℕ) (n : ℕ) → n ≤ length xs →
    count_by h (take n xs) ≡ count_below n (λ p. h (get_or xs p 0))
count-take h xs zero l = refl
count-take h xs (suc n) l =
    let next : suc n ≡ n + 1 = omega arith in
    ap (λ (m : ℕ). count_by h (take m xs)) next
    ∙ (sum_by_more (λ (x : ℕ). cond (h x) 1 0) xs n 0 (omega arith) ∙ omega (arith, count-take h xs n (omega arith)))

count-list : (h : ℕ → Bool) (xs : List ℕ) (n : ℕ) → length xs ≡ n → count_by h xs ≡ count_below n (λ p. h (get_or xs p 0))
count-list h xs n e = ap (count_by h) (sym (take_all n xs (omega arith))) ∙ count-take h xs n (omega arith)

-- two tests that agree on all numbers below n
count-alike : (n : ℕ) (f g : ℕ → Bool) → ((p : ℕ) → p < n → f p ≡ g p) → count_below n f ≡ count_below n g
count-alike zero f g e = refl
count-alike (suc n) f g e = cc (e n (omega arith), count-alike n f g (λ p l. e p (omega arith)))

one-most : (b : Bool) → cond b 1 0 ≤ 1
one-most true = omega arith
one-most false = omega arith

pub count-most : (n : ℕ) (f : ℕ → Bool) → count_below n f ≤ n
count-most zero f = omega arith
count-most (suc n) f = omega (arith, one-most (f n), count-most n f)

-- the indices of all codewords can be put back into blocks
pub indices-some : (v : ℕ) (l : Level) → 1 ≤ v → v ≤ 40 → (ks : List ℕ) × (js : List ℕ) × AreIndices v l ks js
indices-some v l p q =
    let b = blocks_of v l in
    let range = range_with_len 0 (total_codewords_of v) in
    let before = codeword_count (data_sizes b) in
    let whole = sizes-whole v l p q in
    let long = length-range_with_len 0 (total_codewords_of v) in
    let first = gather-some (data_sizes b) range (omega (arith, whole, long)) in
    let rest = gather-some (correction_sizes b) (drop before range) (omega (arith, whole, long, length-drop before range)) in
    (first.0, rest.0, record { gathered = first.1; rest = rest.1 })

-- ---- the marks of a block

-- `marks` has the marks of the codewords that pass the test `h`, and the final sequence has `n` codewords
module _ (b : Blocks) (h : ℕ → Bool) (marks : List Bool) (n i : ℕ) (agree : (j : ℕ) → get_or marks j false ≡ h j)
    (r : i < b.short + b.long) (whole : codeword_count (data_sizes b) + codeword_count (correction_sizes b) ≡ n) where
  -- the test of a codeword, and its mark
  at-index : (xs : List ℕ) (j a : ℕ) → get_or xs j 0 ≡ a → h (get_or xs j 0) ≡ get_or marks a false
  at-index xs j a e = ap h e ∙ sym (agree a)

  data-rows : (ks : List ℕ) → IsGathered (data_sizes b) (range_with_len 0 n) ks →
      count_below b.short_len (λ p. h (get_or (part_of (data_sizes b) ks i) p 0)) ≡ marked_among marks i (b.short + b.long) b.short_len
  data-rows ks g =
      let c = data_sizes b in
      let range = range_with_len 0 n in
      count-alike b.short_len (λ p. h (get_or (part_of c ks i) p 0)) (λ p. get_or marks (i + (b.short + b.long) * p) false)
      (λ p l.
      let m : (b.short + b.long) * (p + 1) ≤ (b.short + b.long) * b.short_len = mul-le-mul_left (b.short + b.long) (omega arith) in
      at-index (part_of c ks i) p (i + (b.short + b.long) * p)
      (row-item c range ks g i r p l
      ∙ (get_or-range_with_len 0 n (p * (b.short + b.long) + i) 0 (omega (arith, m)) ∙ omega arith)))

  data-count : (ks : List ℕ) → IsGathered (data_sizes b) (range_with_len 0 n) ks →
      count_by h (part_of (data_sizes b) ks i)
      ≡ marked_among marks i (b.short + b.long) b.short_len
      + marked_among marks (b.short_len * (b.short + b.long) + (i - b.short)) 1 (cond (ltb i b.short) 0 1)
  data-count ks g =
      count-list h (part_of (data_sizes b) ks i) (block_len (data_sizes b) i) (part-len (data_sizes b) ks i g.long r)
      ∙ by-case (ltb i b.short) refl
    where
      f : ℕ → Bool
      f p = h (get_or (part_of (data_sizes b) ks i) p 0)

      by-case : (w : Bool) → ltb i b.short ≡ w → count_below (cond w b.short_len (b.short_len + 1)) f
          ≡ marked_among marks i (b.short + b.long) b.short_len
          + marked_among marks (b.short_len * (b.short + b.long) + (i - b.short)) 1 (cond w 0 1)
      by-case true e = omega (arith, data-rows ks g)
      by-case false e =
          let from : b.short ≤ i = grind (arith, nat_tests, e) in
          let at = b.short_len * (b.short + b.long) + (i - b.short) in
          let last : f b.short_len ≡ get_or marks (at + 1 * 0) false =
          at-index (part_of (data_sizes b) ks i) b.short_len (at + 1 * 0)
          (last-item (data_sizes b) (range_with_len 0 n) ks g i r from
          ∙ (get_or-range_with_len 0 n at 0 (omega arith) ∙ omega arith)) in
          let next : b.short_len + 1 ≡ suc b.short_len = omega arith in
          ap (λ (m : ℕ). count_below m f) next
          ∙ omega (arith, data-rows ks g, ap (λ (c : Bool). cond {A = ℕ} c 1 0) last)

  checks-count : (js : List ℕ) → IsGathered (correction_sizes b) (drop (codeword_count (data_sizes b)) (range_with_len 0 n)) js →
      count_by h (part_of (correction_sizes b) js i) ≡ marked_among marks (data_len b + i) (b.short + b.long) b.ec_len
  checks-count js g =
      let c = correction_sizes b in
      let before = codeword_count (data_sizes b) in
      let range = range_with_len 0 n in
      let xs = drop before range in
      let len : block_len c i ≡ b.ec_len = grind (arith, nat_tests) in
      count-list h (part_of c js i) (block_len c i) (part-len c js i g.long (omega arith))
      ∙ (ap (λ (m : ℕ). count_below m (λ p. h (get_or (part_of c js i) p 0))) len
      ∙ count-alike b.ec_len (λ p. h (get_or (part_of c js i) p 0)) (λ p. get_or marks (data_len b + i + (b.short + b.long) * p) false)
      (λ p l.
      let m : (b.short + b.long) * (p + 1) ≤ (b.short + b.long) * b.ec_len = mul-le-mul_left (b.short + b.long) (omega arith) in
      at-index (part_of c js i) p (data_len b + i + (b.short + b.long) * p)
      (row-item c xs js g i (omega arith) p l
      ∙ (get_or-drop before range (p * block_count c + i) 0
      ∙ (get_or-range_with_len 0 n (before + (p * block_count c + i)) 0 (omega (arith, m)) ∙ omega arith)))))

  -- the codewords of a block that pass the test
  pub block-count : (ks js : List ℕ) → IsGathered (data_sizes b) (range_with_len 0 n) ks →
      IsGathered (correction_sizes b) (drop (codeword_count (data_sizes b)) (range_with_len 0 n)) js →
      count_by h (received b ks js i) ≡ marked_in b marks i
  block-count ks js g k =
      sum_by-append (λ (x : ℕ). cond (h x) 1 0) (part_of (data_sizes b) ks i) (part_of (correction_sizes b) js i)
      ∙ omega (arith, data-count ks g, checks-count js k)

-- ---- the most of all blocks

-- `most` is the most marked codewords of the first `n` blocks
pub record IsMostBefore (b : Blocks) (marks : List Bool) (n most : ℕ) : Type 0 where
  pub each : (i : ℕ) → i < n → marked_in b marks i ≤ most
  pub reached : ((n ≡ 0) × (most ≡ 0)) ⊎ ((i : ℕ) × (i < n) × (marked_in b marks i ≡ most))

pub most-start : (b : Blocks) (marks : List Bool) → IsMostBefore b marks 0 0
most-start b marks = record { each = λ i l. absurd (omega arith); reached = inl (refl, refl) }

pub most-next : (b : Blocks) (marks : List Bool) (n most x : ℕ) → x ≡ marked_in b marks n → IsMostBefore b marks n most →
    IsMostBefore b marks (n + 1) (max most x)
most-next b marks n most x e w = elim (cases_lt most x) [
  | inl l ↦
      let top : max most x ≡ x = omega arith in
      rw top (record {
        each = λ i r. elim (cases_lt i n) [
          | inl s ↦ omega (arith, w.each i s)
          | inr s ↦
              let same : i ≡ n = omega arith in
              omega (arith, ap (marked_in b marks) same)
        ];
        reached = inr (n, omega arith, sym e);
      })
  | inr l ↦
      let top : max most x ≡ most = omega arith in
      rw top (record {
        each = λ i r. elim (cases_lt i n) [
          | inl s ↦ w.each i s
          | inr s ↦
              let same : i ≡ n = omega arith in
              omega (arith, ap (marked_in b marks) same)
        ];
        reached = elim w.reached [
          | inl z ↦ inr (n, omega arith, omega (arith, z.1))
          | inr z ↦ inr (z.0, (let l = z.1 in omega arith), z.2)
        ];
      })
]

-- no block has more than 153 marked codewords
pub marked-most : (v : ℕ) (l : Level) (marks : List Bool) (i : ℕ) → 1 ≤ v → v ≤ 40 → marked_in (blocks_of v l) marks i ≤ 153
marked-most v l marks i p q =
    let b = blocks_of v l in
    let laws = laws-of l v p q in
    let rows = count-most b.short_len (λ p. get_or marks (i + (b.short + b.long) * p) false) in
    let last = count-most (cond (ltb i b.short) 0 1) (λ p. get_or marks (b.short_len * (b.short + b.long) + (i - b.short) + 1 * p) false) in
    let checks = count-most b.ec_len (λ p. get_or marks (data_len b + i + (b.short + b.long) * p) false) in
    let one : cond (ltb i b.short) 0 1 ≤ 1 = flag (ltb i b.short) in
    omega (arith, rows, last, checks, one, laws.len, laws.ec_most)
  where
    flag : (w : Bool) → cond w 0 1 ≤ 1
    flag true = omega arith
    flag false = omega arith

-- the most marked codewords are the most covered ones
pub most-covered : (v : ℕ) (l : Level) (k : ℕ) (marks : List Bool) (n most : ℕ) → 1 ≤ v → v ≤ 40 → AreMarks v k marks →
    n ≡ (blocks_of v l).short + (blocks_of v l).long → IsMostBefore (blocks_of v l) marks n most → IsMostCovered v l k most
most-covered v l k marks n most p q m e w =
    let b = blocks_of v l in
    let some = indices-some v l p q in
    let whole = sizes-whole v l p q in
    let same : (i : ℕ) → i < blocks_in v l → covered_in v l k m.places some.0 some.1 i ≡ marked_in b marks i =
    λ i r. block-count b (is_covered v k m.places) marks (total_codewords_of v) i m.each r whole some.0 some.1 some.2.gathered some.2.rest in
    let sound = blocks-sound l v p q in
    elim w.reached [
      | inl z ↦ absurd (omega (arith, z.0, sound.some))
      | inr z ↦ record {
        places = m.places;
        order = m.order;
        indices = some.0;
        checks = some.1;
        inside = some.2;
        most = λ i r. omega (arith, same i r, w.each i (omega arith));
        block = z.0;
        block_in = let l = z.1 in omega arith;
        reached = same z.0 (let l = z.1 in omega arith) ∙ z.2;
      }
    ]
