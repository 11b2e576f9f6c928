-- The search for the locator: what adding a multiple of a shifted polynomial does, and that its degree stays below the
-- number of errors.
use Rattle.std.proofs.Common.{◌≡◌, ℕ, zero, suc, ◌+◌, ◌-◌, ◌*◌, ◌<◌, ◌≤◌, List, [], ◌∷◌, ◌++◌, length, take, drop, get_or, set, refl, sym, ap, ◌∙◌, subst, inl, inr, arith, lit<, bit_xor, append_assoc, length-append}
use Rattle.std.proofs.{lemmas.{Bool.cases_lt, Nat.xor_comm, List.set-get_or}, Math.Seq.take-append-add}
use Rattle.std.proofs.lemmas.List.{length-take, length-map, take_all, get_or-take, get_or-append-add, drop-drop, take_more_set, take_more, length-replicate}
use Rattle.std.{proofs.lemmas.List.Elements.{All-nil, All-cons, All-head, All-tail, All-drop}, specs.{List.All, Int.Bits.{xor_zero_l, xor_zero_r, xor_self}}}
use Rattle.qr_field.specs.{Galois.product, Polynomial.{IsByte, plus, scaled, zeros}, Distance.differences}
use Rattle.qr_field.proofs.lemmas.{galois.ByteLemmas.{product-by_zero, product-of_zero}, polynomial.ListLemmas.{take-plus, length-plus, bytes-plus, bytes-scaled}}
use Rattle.qr_field.proofs.lemmas.laws.DistanceLemmas.{weight, value-none}
use Rattle.qr_mending.specs.declared.{polynomial.Polynomial.Polynomial, locator.{Search.Search, Progress.Progress}}
use Rattle.qr_mending.specs.Steps.Polynomial.{all_of, IsMonic, discrepancy_of, IsBest, IsSearch, IsProgress}
use Rattle.qr_mending.specs.Steps.{Sums.{dot_of, HasValues}, Errors.{weighted, AreFewErrors, AreFewErrorsOf, IsLocated}}
use Rattle.qr_mending.proofs.lemmas.{sums.{dot-plus, dot-blend, values-none}, errors.WeightLemmas.{weighted-none, weighted-value, errors-root}}

-- ---- sums of a polynomial and a multiple

-- one coefficient more
plus-set : (f : ℕ) (o t : List ℕ) (j : ℕ) → j < length o → j < length t →
    set (plus (scaled f (take j o)) t) j (bit_xor (product f (get_or o j 0)) (get_or t j 0)) ≡ plus (scaled f (take (suc j) o)) t
plus-set f [] t j l h = absurd (omega arith)
plus-set f (x ∷ o) [] j l h = absurd (omega arith)
plus-set f (x ∷ o) (y ∷ t) zero l h = refl
plus-set f (x ∷ o) (y ∷ t) (suc j) l h = cc (plus-set f o t j (omega arith) (omega arith))

-- the items after the end of the shorter list stay the same
plus-beyond : (xs ys : List ℕ) (k : ℕ) → length xs ≤ k → get_or (plus xs ys) k 0 ≡ get_or ys k 0
plus-beyond [] ys k l = refl
plus-beyond (x ∷ xs) [] zero l = absurd (omega arith)
plus-beyond (x ∷ xs) [] (suc k) l = past xs k (omega arith)
  where
    past : (zs : List ℕ) (k : ℕ) → length zs ≤ k → get_or zs k 0 ≡ 0
    past [] k l = refl
    past (z ∷ zs) zero l = absurd (omega arith)
    past (z ∷ zs) (suc k) l = past zs k (omega arith)
plus-beyond (x ∷ xs) (y ∷ ys) zero l = absurd (omega arith)
plus-beyond (x ∷ xs) (y ∷ ys) (suc k) l = plus-beyond xs ys k (omega arith)

-- a multiple of the first k coefficients, shifted by a, has at most a + k coefficients
length-multiple : (f a k : ℕ) (p : List ℕ) → length (scaled f (zeros a ++ take k p)) ≤ a + k
length-multiple f a k p = search (arith, length-map, length-append, length-replicate, length-take)

-- before the first coefficient of the multiple
pub add-begins : (f a : ℕ) (p t : List ℕ) → f < 256 → a ≤ length t → t ≡ plus (scaled f (zeros a ++ take 0 p)) t
add-begins f zero p t lf l = refl
add-begins f (suc a) p [] lf l = absurd (omega arith)
add-begins f (suc a) p (x ∷ t) lf l = cc (product-by_zero f lf, xor_zero_l x, add-begins f a p t lf (omega arith))

-- the coefficients of the multiple at their indices
first-multiples : (a k : ℕ) (p : List ℕ) → take (a + k) (zeros a ++ p) ≡ zeros a ++ take k p
first-multiples a k p = cc (length-replicate {A = ℕ} a 0, take-append-add (zeros a) p k)

multiple-at : (a k : ℕ) (p : List ℕ) → get_or (zeros a ++ p) (a + k) 0 ≡ get_or p k 0
multiple-at a k p = search (arith, length-replicate, get_or-append-add)

-- one coefficient of the multiple more
pub add-more : (f a k m : ℕ) (p t now : List ℕ) → k < length p → a + k < length t →
    now ≡ plus (scaled f (zeros a ++ take k p)) t → m ≡ product f (get_or p k 0) →
    set now (a + k) (bit_xor (get_or now (a + k) 0) m) ≡ plus (scaled f (zeros a ++ take (k + 1) p)) t
add-more f a k m p t now l h same value =
    let o = zeros a ++ p in
    let next : a + (k + 1) ≡ suc (a + k) = omega arith in
    cc (
      plus-beyond (scaled f (zeros a ++ take k p)) t (a + k) (length-multiple f a k p),
      xor_comm (get_or t (a + k) 0) m,
      multiple-at a k p,
      first-multiples a k p,
      first-multiples a (k + 1) p,
      plus-set f o t (a + k) (omega (arith, length-append (zeros a) p, length-replicate {A = ℕ} a 0)) h,
    )

-- a coefficient of 0 adds nothing
pub add-skip : (f a k : ℕ) (p t now : List ℕ) → f < 256 → k < length p → a + k < length t → get_or p k 0 ≡ 0 →
    now ≡ plus (scaled f (zeros a ++ take k p)) t → now ≡ plus (scaled f (zeros a ++ take (k + 1) p)) t
add-skip f a k p t now lf l h none same =
    cc (
      set-get_or now (a + k) 0,
      xor_zero_r (get_or now (a + k) 0),
      add-more f a k 0 p t now l h same (sym (ap (product f) none ∙ product-by_zero f lf)),
      product-by_zero f lf,
    )

-- the leading coefficient stays the same
pub add-leading : (f a k d : ℕ) (p t now : List ℕ) → a + k ≤ d → now ≡ plus (scaled f (zeros a ++ take k p)) t →
    get_or t d 0 ≡ 1 → get_or now d 0 ≡ 1
add-leading f a k d p t now l same one = search (arith, plus-beyond, length-multiple)

-- the sum with all coefficients of the multiple
pub add-all : (f a k d : ℕ) (p t now : List ℕ) → a + k ≤ d → now ≡ plus (scaled f (zeros a ++ take k p)) t →
    take (d + 1) now ≡ plus (scaled f (zeros a ++ take k p)) (take (d + 1) t)
add-all f a k d p t now l same = search (arith, take-plus, take_all, length-multiple)

-- the quotient of a dividend that is not 0 is not 0
pub factor-some : (f s d : ℕ) → s < 256 → product f s ≡ d → (d ≡ 0 → ⊥) → 1 ≤ f
factor-some zero s d l e n = absurd (n (sym e ∙ product-of_zero s l))
factor-some (suc f) s d l e n = omega arith

-- ---- shifted polynomials

-- one coefficient more
pub shift-more : (a k v : ℕ) (p now : List ℕ) → a + k < length now → k < length p →
    take (a + k) now ≡ zeros a ++ take k p → v ≡ get_or p k 0 →
    take (a + (k + 1)) (set now (a + k) v) ≡ zeros a ++ take (k + 1) p
shift-more a k v p now l m same value =
    let next : a + (k + 1) ≡ a + k + 1 = omega arith in
    search (arith, take_more_set, append_assoc, take_more)

-- the leading coefficient moves up
pub shift-leading : (a d e : ℕ) (p q : List ℕ) → e ≡ d + a → take (a + (d + 1)) q ≡ zeros a ++ take (d + 1) p →
    get_or p d 0 ≡ 1 → get_or q e 0 ≡ 1
shift-leading a d e p q exponent same one = search (arith, length-replicate, get_or-take, get_or-append-add)

-- the sum of products without the first zeros
dot-zeros : (a : ℕ) (p w : List ℕ) → All IsByte w → dot_of (zeros a ++ p) w ≡ dot_of p (drop a w)
dot-zeros zero p w lw = refl
dot-zeros (suc a) p [] lw = dot-nothing p
  where
    dot-nothing : (p : List ℕ) → 0 ≡ dot_of p []
    dot-nothing [] = refl
    dot-nothing (x ∷ p) = refl
dot-zeros (suc a) p (b ∷ w) lw =
    search (arith, All-head, product-of_zero, xor_zero_l, All-tail, dot-zeros a p w (All-tail IsByte b w lw))

-- zeros and bytes are bytes
bytes-zeros : (a : ℕ) (p : List ℕ) → All IsByte p → All IsByte (zeros a ++ p)
bytes-zeros zero p lp = lp
bytes-zeros (suc a) p lp = All-cons IsByte 0 (zeros a ++ p) (lit< tt) (bytes-zeros a p lp)

-- ---- the next polynomial

-- the sum of the next polynomial for the equation of index j
discrepancy-next : (f a b j : ℕ) (p q s : List ℕ) → f < 256 → All IsByte p → All IsByte q → All IsByte s →
    length (zeros a ++ p) ≤ length (zeros b ++ q) →
    dot_of (plus (scaled f (zeros a ++ p)) (zeros b ++ q)) (drop j s) ≡ bit_xor (product f (dot_of p (drop (a + j) s))) (dot_of q (drop (b + j) s))
discrepancy-next f a b j p q s lf lp lq ls short =
    let lw = All-drop IsByte j s ls in
    search (arith, dot-plus, bytes-zeros, dot-zeros, drop-drop)

-- `next` is the sum of two polynomials: `earlier`, multiplied by `f` and x^a, and `best`, multiplied by x^b. For the
-- new equation, whose index is `i` less the degree of `best`, their sums of products are equal, so they cancel.
pub record IsNext (i a b f : ℕ) (s : List ℕ) (search : Search) (next : Polynomial) : Type 0 where
  pub byte : f < 256
  pub degree : next.degree ≡ b + search.best.degree
  pub shift : a + (i + 1) ≡ search.best.degree + next.degree
  pub cancels : product f search.earlier_discrepancy ≡ discrepancy_of search.best (drop (i - search.best.degree) s)
  pub sum : all_of next ≡ plus (scaled f (zeros a ++ all_of search.earlier)) (zeros b ++ all_of search.best)
  pub monic : IsMonic next

module _ (i a b f : ℕ) (s : List ℕ) (search : Search) (next : Polynomial) (ls : All IsByte s) (h : IsSearch i s search)
    (n : IsNext i a b f s search next) where
  -- the multiple of `best` has as many coefficients as the next polynomial
  length-best : length (zeros b ++ all_of search.best) ≡ next.degree + 1
  length-best =
      omega (arith, length-append (zeros b) (all_of search.best), length-replicate {A = ℕ} b 0)

  -- the multiple of `earlier` has no more
  length-earlier : length (zeros a ++ all_of search.earlier) ≤ next.degree + 1
  length-earlier = omega (
    arith,
    length-append (zeros a) (all_of search.earlier),
    length-replicate {A = ℕ} a 0,
    length-take (search.earlier.degree + 1) search.earlier.terms,
  )

  -- the next polynomial solves one equation more
  solved-next : (j : ℕ) → j + next.degree < i + 1 → discrepancy_of next (drop j s) ≡ 0
  solved-next j g =
      let p = all_of search.earlier in
      let q = all_of search.best in
      let start : dot_of (all_of next) (drop j s) ≡ bit_xor (product f (dot_of p (drop (a + j) s))) (dot_of q (drop (b + j) s)) =
      cc (discrepancy-next f a b j p q s n.byte h.bytes h.best.bytes ls (omega (arith, length-best, length-earlier))) in
      elim (cases_lt (j + next.degree) i) [
        | inl k ↦
            let before = h.before (a + j) (omega arith) in
            let solved = h.best.solved (b + j) (omega arith) in
            cc (product-by_zero f n.byte, xor_zero_l 0)
        | inr k ↦
            let last = h.last (a + j) (omega arith) in
            let index : b + j ≡ i - search.best.degree = omega arith in
            cc (xor_self (product f search.earlier_discrepancy))
      ]

  -- the next polynomial is the best after one syndrome more
  pub best-next : IsBest (i + 1) s next
  best-next =
      let p = zeros a ++ all_of search.earlier in
      let q = zeros b ++ all_of search.best in
      let lp = bytes-zeros a (all_of search.earlier) h.bytes in
      let lq = bytes-zeros b (all_of search.best) h.best.bytes in
      let short : length (scaled f p) ≤ length q = omega (arith, length-map p (product f), length-best, length-earlier) in
      record {
        bytes = subst (λ (t : List ℕ). All IsByte t) (sym n.sum) (bytes-plus (scaled f p) q (bytes-scaled f p n.byte) lq);
        count = cc (length-plus (scaled f p) q short, length-best);
        monic = n.monic;
        solved = solved-next;
      }

-- ---- the bound of the degree

-- how many errors are not 0
pub weight-zeros : (e : List ℕ) → differences e (zeros (length e)) ≡ weight e
weight-zeros [] = refl
weight-zeros (c ∷ e) = omega (arith, weight-zeros e)

-- if an equation is not solved, the number of errors is above its index
pub few-bound : (t i : ℕ) (search : Search) (s e : List ℕ) → IsSearch i s search → i < length s → AreFewErrors t s e → (discrepancy_of search.best (drop (i - search.best.degree) s) ≡ 0 → ⊥) → i < t + search.best.degree
few-bound t i search s e h within few some = elim (cases_lt i (t + search.best.degree)) [
  | inl g ↦ g
  | inr g ↦
      let q = all_of search.best in
      let k = i - search.best.degree in
      let lb = h.best.bytes in
      let count = h.best.count in
      let none = weighted-none k q e lb few.bytes few.most (omega (arith, weight-zeros e))
      (λ n m. sym (dot-blend q n s e few.values (omega arith))
      ∙ h.best.solved n (omega arith)) in
      absurd (some (dot-blend q k s e few.values (omega arith) ∙ (sym (weighted-value q k e lb few.bytes) ∙ value-none k (weighted q e) none)))
]

-- the polynomial 1, with which the search begins
pub search-begins : (s : List ℕ) (p : Polynomial) → p.degree ≡ 0 → IsMonic p → all_of p ≡ 1 ∷ [] →
    IsSearch 0 s (record { best = p; earlier = p; earlier_discrepancy = 1 })
search-begins s p degree monic terms = search (arith, All-cons, All-nil)

-- ---- one syndrome more

-- a sum of products whose syndromes are in two lists of the same values
discrepancy-same : (p : Polynomial) (j : ℕ) (s u r : List ℕ) → HasValues s r → HasValues u r → j + p.degree < length s →
    j + p.degree < length u → discrepancy_of p (drop j u) ≡ discrepancy_of p (drop j s)
discrepancy-same p j s u r hs hu ls lu =
    let count = length-take (p.degree + 1) p.terms in
    dot-blend (all_of p) j u r hu (omega arith) ∙ sym (dot-blend (all_of p) j s r hs (omega arith))

-- the search depends only on the syndromes that it took in
search-same : (i : ℕ) (search : Search) (s u r : List ℕ) → HasValues s r → HasValues u r → i ≤ length s → i ≤ length u →
    IsSearch i s search → IsSearch i u search
search-same i search s u r hs hu ls lu h = record {
  best = record {
    bytes = h.best.bytes;
    count = h.best.count;
    monic = h.best.monic;
    solved = λ j g. discrepancy-same search.best j s u r hs hu (omega arith) (omega arith) ∙ h.best.solved j g;
  };
  bytes = h.bytes;
  some = h.some;
  degrees = h.degrees;
  before = λ j g.
      discrepancy-same search.earlier j s u r hs hu (omega arith) (omega arith) ∙ h.before j g;
  last = λ j g.
      discrepancy-same search.earlier j s u r hs hu (omega arith) (omega arith) ∙ h.last j g;
}

-- before the first syndrome is taken in
pub progress-begins : (t : ℕ) (r : List ℕ) (progress : Progress) → progress.syndromes.items ≡ [] → progress.taken ≡ 0 →
    ((s : List ℕ) → IsSearch 0 s progress.search) → progress.search.best.degree ≡ 0 → IsProgress t r progress
progress-begins t r progress none start search degree =
    let items = progress.syndromes.items in
    record {
      values = values-none items r none;
      count = omega (arith, ap length none);
      search = subst (λ (k : ℕ). IsSearch k items progress.search) (sym start) (search items);
      degree = omega arith;
      within = omega arith;
      most = omega arith;
    }

-- after further syndromes are computed
pub progress-longer : (t : ℕ) (r : List ℕ) (before after : Progress) → IsProgress t r before →
    HasValues after.syndromes.items r → length before.syndromes.items ≤ length after.syndromes.items →
    length after.syndromes.items ≤ length r → after.taken ≡ before.taken → after.search ≡ before.search → IsProgress t r after
progress-longer t r before after h values longer count taken search =
    record {
      values = values;
      count = count;
      search = rw (taken, search) (search-same before.taken before.search before.syndromes.items after.syndromes.items r h.values values h.within (omega arith) h.search);
      degree = rw search h.degree;
      within = omega arith;
      most = omega arith;
    }

-- after the next syndrome is taken in
pub progress-next : (t : ℕ) (r : List ℕ) (before after : Progress) → IsProgress t r before →
    after.syndromes ≡ before.syndromes → after.taken ≡ before.taken + 1 →
    before.taken < length before.syndromes.items → before.taken < 2 * t →
    IsSearch (before.taken + 1) before.syndromes.items after.search → after.search.best.degree ≤ t → IsProgress t r after
progress-next t r before after h same taken within most search degree = record {
  values = rw same h.values;
  count = rw same h.count;
  search = rw (same, taken) search;
  degree = degree;
  within = rw (same, taken) (omega arith);
  most = omega arith;
}

-- errors with the same remainder have the syndromes that were taken in
pub few-values : (t : ℕ) (r s e : List ℕ) → HasValues s r → length s ≤ length r → AreFewErrorsOf t r e → AreFewErrors t s e
few-values t r s e h l few = search arith

-- the polynomial that solves t equations locates the errors
pub search-locates : (t i : ℕ) (search : Search) (s e : List ℕ) → IsSearch i s search → 2 * t ≤ i → i ≤ length s →
    search.best.degree ≤ t → AreFewErrors t s e → IsLocated (all_of search.best) e
search-locates t i search s e h enough long most few =
    let q = all_of search.best in
    let count = h.best.count in
    record {
      bytes = few.bytes;
      most = few.most;
      roots = errors-root t q e h.best.bytes few.bytes few.most (omega (arith, weight-zeros e))
          (λ k g. sym (dot-blend q k s e few.values (omega arith))
          ∙ h.best.solved k (omega arith));
    }
