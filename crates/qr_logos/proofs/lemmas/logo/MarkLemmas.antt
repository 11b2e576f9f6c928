-- Which codewords are marked along the walk.
use Rattle.qr_layout.{proofs.Facts.order-small, specs.{Order.IsOrder, declared.region.Module.Module}}
use Rattle.qr_mending.specs.Message.{modules_of}
use Rattle.qr_logos.specs.{Logo.{is_covered, is_under}, Steps.Logo.{with_mark, AreMarks}}
use Rattle.std.proofs.Common.{◌≡◌, ℕ, ◌+◌, ◌*◌, ◌/◌, ◌<◌, ◌≤◌, ◌||◌, Bool, true, false, List, [], ◌∷◌, ◌++◌, take, drop, length, length-append, length-drop, get_or, set, replicate, refl, sym, ap, subst, append_assoc, ◌∙◌, inl, inr, arith}
use Rattle.std.proofs.lemmas.List.{append-nil, drop-append-le, drop_all, get_or-replicate, get_or-set_other, get_or-set_same, length-replicate, length-set, take-append-le, take_all}
use Rattle.std.proofs.{Math.{ListN.get_or-eq_default, Seq.{drop-nil, take-nil}}, lemmas.{Bool.{cases_lt, Decides.nat_tests}, List.Folds.list_any-append}}
use Rattle.std.specs.List.{list_any}

-- a module is under the logo
abbrev pub under : ℕ → ℕ → Module → Bool
under v k m = is_under v k m.row m.col

or-false : (a b : Bool) → (a || (b || false)) ≡ (a || b)
or-false a b = grind (arith, nat_tests)

-- ---- one module more

-- the module with the number n belongs to codeword n / 8
covered-here : (v k : ℕ) (front : List Module) (x : Module) (j : ℕ) → j ≡ length front / 8 →
    is_covered v k (front ++ x ∷ []) j ≡ (is_covered v k front j || under v k x)
covered-here v k front x j e =
    let n = length front in
    let ys = drop (8 * j) front in
    let low : 8 * j ≤ n = omega arith in
    let long : length ys ≤ 7 = omega (arith, length-drop (8 * j) front) in
    let cut : modules_of (front ++ x ∷ []) j ≡ ys ++ x ∷ [] =
    ap (take 8) (drop-append-le (8 * j) front (x ∷ []) low) ∙ take_all 8 (ys ++ x ∷ []) (omega (arith, length-append ys (x ∷ []))) in
    let before : modules_of front j ≡ ys = take_all 8 ys (omega arith) in
    ap (list_any (under v k)) cut
    ∙ (list_any-append (under v k) ys (x ∷ [])
    ∙ (or-false (list_any (under v k) ys) (under v k x)
    ∙ ap (λ (ms : List Module). list_any (under v k) ms || under v k x) (sym before)))

-- it belongs to no other
covered-there : (v k : ℕ) (front : List Module) (x : Module) (j : ℕ) → (j ≡ length front / 8 → ⊥) →
    is_covered v k (front ++ x ∷ []) j ≡ is_covered v k front j
covered-there v k front x j other =
    let n = length front in elim (cases_lt j (n / 8)) [
      | inl l ↦
          let ys = drop (8 * j) front in
          let low : 8 * j ≤ n = omega arith in
          let long : 8 ≤ length ys = omega (arith, length-drop (8 * j) front) in
          ap (list_any (under v k)) (ap (take 8) (drop-append-le (8 * j) front (x ∷ []) low) ∙ take-append-le 8 ys (x ∷ []) long)
      | inr l ↦ elim (cases_lt (n / 8) j) [
        | inl m ↦
            let whole = length-append front (x ∷ []) in
            ap (λ (ms : List Module). list_any (under v k) (take 8 ms))
            (drop_all (8 * j) (front ++ x ∷ []) (omega arith) ∙ sym (drop_all (8 * j) front (omega arith)))
        | inr m ↦ absurd (other (omega arith))
      ]
    ]

-- ---- along the walk

-- the modules of the walk in `front` were visited, and those in `later` are still to come
pub record IsMarking (v k : ℕ) (front later : List Module) (number : ℕ) (marks : List Bool) : Type 0 where
  pub whole : IsOrder v (front ++ later)
  pub next : number ≡ length front
  pub long : length marks ≡ 3706
  pub each : (j : ℕ) → get_or marks j false ≡ is_covered v k front j

none-marked : (n j : ℕ) → get_or (replicate n false) j false ≡ false
none-marked n j = elim (cases_lt j n) [
  | inl l ↦ get_or-replicate n j false false l
  | inr l ↦ get_or-eq_default (replicate n false) false (omega (arith, length-replicate n false))
]

-- at first no module was visited, and no codeword is marked
pub marking-start : (v k : ℕ) (ms : List Module) (marks : List Bool) → marks ≡ replicate 3706 false → IsOrder v ms →
    IsMarking v k [] ms 0 marks
marking-start v k ms marks e o = record {
  whole = o;
  next = refl;
  long = ap (length {A = Bool}) e ∙ length-replicate 3706 false;
  each = λ j.
      ap (λ (xs : List Bool). get_or xs j false) e
      ∙ (none-marked 3706 j ∙ sym (ap (λ (ms : List Module). list_any (under v k) (take 8 ms)) (drop-nil (8 * j)) ∙ ap (list_any (under v k)) (take-nil 8)));
}

next-whole : (v k : ℕ) (front now later : List Module) (x : Module) (number : ℕ) (marks : List Bool) →
    IsMarking v k front now number marks → now ≡ x ∷ later → IsOrder v (front ++ x ∷ later)
next-whole v k front now later x number marks w e = subst (λ (ms : List Module). IsOrder v (front ++ ms)) e w.whole

-- the number of the next module
pub marking-next : (v k : ℕ) (front now later : List Module) (x : Module) (number : ℕ) (marks : List Bool) → 1 ≤ v → v ≤ 40 →
    IsMarking v k front now number marks → now ≡ x ∷ later → number < 29648
marking-next v k front now later x number marks p q w e =
    omega (
      arith,
      order-small v (front ++ x ∷ later) p q (next-whole v k front now later x number marks w e),
      length-append front (x ∷ later),
      w.next,
    )

mark-one : (marks : List Bool) (a j : ℕ) (b : Bool) → a < length marks → j ≡ a → get_or (with_mark marks a b) j false ≡ (get_or marks j false || b)
mark-one marks a j true l e = ap (λ (n : ℕ). get_or (set marks a true) n false) e ∙ (get_or-set_same marks a true false l ∙ always (get_or marks j false))
  where
    always : (c : Bool) → true ≡ (c || true)
    always c = grind (arith, nat_tests)
mark-one marks a j false l e = never (get_or marks j false)
  where
    never : (c : Bool) → c ≡ (c || false)
    never c = grind (arith, nat_tests)

mark-other : (marks : List Bool) (a j : ℕ) (b : Bool) → (j ≡ a → ⊥) → get_or (with_mark marks a b) j false ≡ get_or marks j false
mark-other marks a j true n = get_or-set_other marks a j true false n
mark-other marks a j false n = refl

mark-long : (marks : List Bool) (a : ℕ) (b : Bool) → length (with_mark marks a b) ≡ length marks
mark-long marks a true = length-set marks a true
mark-long marks a false = refl

-- one module more was visited
pub marking-step : (v k : ℕ) (front now later : List Module) (x : Module) (number : ℕ) (marks new : List Bool) (b : Bool) → 1 ≤ v → v ≤ 40 →
    IsMarking v k front now number marks → now ≡ x ∷ later → b ≡ is_under v k x.row x.col → new ≡ with_mark marks (number / 8) b →
    IsMarking v k (front ++ x ∷ []) later (number + 1) new
marking-step v k front now later x number marks new b p q w e under-is f =
    let a = number / 8 in
    let small = marking-next v k front now later x number marks p q w e in
    let own : a ≡ length front / 8 = ap (λ (n : ℕ). n / 8) w.next in
    record {
      whole = subst (IsOrder v) (sym (append_assoc front (x ∷ []) later)) (next-whole v k front now later x number marks w e);
      next = omega (arith, w.next, length-append front (x ∷ []));
      long = ap (length {A = Bool}) f ∙ (mark-long marks a b ∙ w.long);
      each = λ j.
          ap (λ (xs : List Bool). get_or xs j false) f
          ∙ elim (cases_lt j a) [
            | inl l ↦
                mark-other marks a j b (λ z. absurd (omega arith))
                ∙ (w.each j ∙ sym (covered-there v k front x j (λ z. absurd (omega arith))))
            | inr l ↦ elim (cases_lt a j) [
              | inl m ↦
                  mark-other marks a j b (λ z. absurd (omega arith))
                  ∙ (w.each j ∙ sym (covered-there v k front x j (λ z. absurd (omega arith))))
              | inr m ↦
                  let same : j ≡ a = omega arith in
                  mark-one marks a j b (omega (arith, w.long)) same
                  ∙ (ap (λ (c : Bool). c || b) (w.each j)
                  ∙ (ap (λ (c : Bool). is_covered v k front j || c) under-is ∙ sym (covered-here v k front x j (same ∙ own))))
            ]
          ];
    }

-- at the end the codewords are marked
pub marking-end : (v k : ℕ) (front later : List Module) (number : ℕ) (marks : List Bool) → later ≡ [] →
    IsMarking v k front later number marks → AreMarks v k marks
marking-end v k front later number marks e w = record {
  places = front;
  order = subst (IsOrder v) (ap (λ (ms : List Module). front ++ ms) e ∙ append-nil front) w.whole;
  each = w.each;
}
