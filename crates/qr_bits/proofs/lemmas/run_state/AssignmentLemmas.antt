-- An assignment is valid (`IsAssignment`) exactly if each of its modes is allowed after those before it (`allowed`).
use Rattle.qr_bits.proofs.lemmas.best_modes.ChoiceLemmas.{take-begin, state_after-whole}
use Rattle.qr_bits.{proofs.lemmas.segmentation.CoverLemmas.{suits_by, CoversBy}, specs.{Modes.may_use, Segmentation.{rank, prepend_mode, runs_of}}}
use Rattle.qr_bits.specs.{Steps.RunState.{state_after, begins_with_pair, may_begin, may_take, may_end, allowed}, declared.modes.Mode.{Mode, TheVariants.Kanji}}
use Rattle.qr_bits.specs.declared.{modes.Rule.Rule, run_state.RunState.{RunState, TheVariants.WholePair}, segmentation.Segment.Segment}
use Rattle.std.proofs.Common.{◌≡◌, ℕ, suc, ◌+◌, ◌<◌, Bool, true, ◌==◌, ◌&&◌, List, [], ◌∷◌, IsTrue, refl, arith, lit<}
use Rattle.std.{proofs.lemmas.Bool.{cond_both, and_parts, and_from, false≢true}, specs.List.list_all}

-- a valid assignment, where two bytes are a pair if they pass the test
abbrev pub IsAssignmentBy : (ℕ → ℕ → Bool) → Rule → List ℕ → List Mode → Type 0
IsAssignmentBy test r xs ms = IsTrue (list_all (may_use r) ms) × CoversBy test xs (runs_of ms)

-- no segment is empty
abbrev Positive : List Segment → Type 0
Positive [] = Unit {0}
Positive (s ∷ ss) = (0 < s.len) × Positive ss

Positive-runs_of : (ms : List Mode) → Positive (runs_of ms)
unfolding runs_of
Positive-runs_of [] = tt
Positive-runs_of (m ∷ ms) = search (arith, cond_both, Positive-runs_of ms)

add-one : (test : ℕ → ℕ → Bool) (m : Mode) (x : ℕ) (xs : List ℕ) (segs : List Segment) → rank m < 3 → suits_by test m (x ∷ []) ≡ true → CoversBy test xs segs → CoversBy test (x ∷ xs) (prepend_mode m segs)
unfolding CoversBy
add-one test m x xs segs k h c = grind arith

drop-one : (t : ℕ → ℕ → Bool) (m : Mode) (x : ℕ) (xs : List ℕ) (segs : List Segment) → rank m < 3 → Positive segs → CoversBy t (x ∷ xs) (prepend_mode m segs) → (suits_by t m (x ∷ []) ≡ true) × CoversBy t xs segs
unfolding CoversBy
drop-one t m x xs segs k p c = grind arith

-- if segments cover bytes and begin with two bytes in kanji mode, these two are a pair, and the segments without them
-- cover the other bytes
drop-pair : (test : ℕ → ℕ → Bool) (x y : ℕ) (xs : List ℕ) (segs : List Segment) → Positive segs → CoversBy test (x ∷ y ∷ xs) (prepend_mode Kanji (prepend_mode Kanji segs)) → (test x y ≡ true) × CoversBy test xs segs
unfolding CoversBy
drop-pair test x y xs [] p c = search (arith, and_parts)
drop-pair test x y xs (s ∷ ss) p c =
    cond_both (3 == rank s.mode) _ _ (λ (r : List Segment). CoversBy test (x ∷ y ∷ xs) (prepend_mode Kanji r) → (test x y ≡ true) × CoversBy test xs (s ∷ ss))
    (λ e c.
    let two : 1 + (1 + s.len) ≡ suc (suc s.len) = omega arith in
    search (arith, and_parts)) (λ e c. ((and_parts (test x y) true c.2).0, c.3)) c

half : (test : ℕ → ℕ → Bool) (m : Mode) (x : ℕ) (xs : List ℕ) (segs : List Segment) → rank m < 3 → CoversBy test (x ∷ xs) (prepend_mode Kanji (prepend_mode m segs)) → ⊥
unfolding CoversBy
half test m x xs segs k c = grind arith

alone : (test : ℕ → ℕ → Bool) (x : ℕ) (segs : List Segment) → Positive segs → CoversBy test (x ∷ []) (prepend_mode Kanji segs) → ⊥
unfolding CoversBy
alone test x segs p c = grind arith

pub may_end-after : (p : RunState) (m : Mode) → rank m < 3 → may_end (state_after p m) ≡ true
unfolding may_end state_after
may_end-after p m k = grind arith

-- a mode may begin if the rule allows it and the byte can be written in it
pub begin-is : (test : ℕ → ℕ → Bool) (r : Rule) (m : Mode) (x : ℕ) (pair : Bool) → rank m < 3 → may_begin r x pair m ≡ (may_use r m && suits_by test m (x ∷ []))
unfolding may_begin
begin-is test r m x pair k = grind arith

-- a valid assignment is allowed, from any state in which no half pair is open
abbrev CanTake : (ℕ → ℕ → Bool) → Rule → List ℕ → List Mode → Type 0
CanTake test r xs ms = (p : RunState) → may_end p ≡ true → allowed r test p xs ms ≡ true

-- the modes of a valid assignment can be taken one after the other
pub can-take : (test : ℕ → ℕ → Bool) (r : Rule) (xs : List ℕ) (ms : List Mode) → IsAssignmentBy test r xs ms → CanTake test r xs ms
unfolding CoversBy runs_of allowed may_take may_begin begins_with_pair state_after may_end
can-take test r [] ms h p e = grind arith
can-take test r (x ∷ xs) [] h p e = cc
can-take test r (x ∷ []) (Kanji ∷ ms) h p e = search (arith, alone, Positive-runs_of)
can-take test r (x ∷ y ∷ xs) (Kanji ∷ []) h p e = absurd (false≢true h.1.2)
can-take test r (x ∷ y ∷ xs) (Kanji ∷ Kanji ∷ ms) h p e =
    search (arith, and_parts, drop-pair, Positive-runs_of, and_from, take-begin, state_after-whole, can-take test r xs ms)
can-take test r (x ∷ y ∷ xs) (Kanji ∷ m ∷ ms) h p e = search (arith, half)
can-take test r (x ∷ xs) (m ∷ ms) h p e = search (arith, and_parts, drop-one, Positive-runs_of, and_from, take-begin, begin-is, may_end-after, can-take test r xs ms)

-- What is allowed is a valid assignment.
pub is-assignment : (test : ℕ → ℕ → Bool) (r : Rule) (xs : List ℕ) (ms : List Mode) (p : RunState) → may_end p ≡ true → allowed r test p xs ms ≡ true → IsAssignmentBy test r xs ms
unfolding CoversBy runs_of allowed may_take may_begin begins_with_pair state_after may_end
is-assignment test r [] ms p e h = grind arith
is-assignment test r (x ∷ xs) [] p e h = absurd (false≢true h)
is-assignment test r (x ∷ []) (Kanji ∷ ms) p e h = search (arith, take-begin, and_parts)
is-assignment test r (x ∷ y ∷ xs) (Kanji ∷ []) p e h = search (arith, false≢true, and_parts)
is-assignment test r (x ∷ y ∷ xs) (Kanji ∷ Kanji ∷ ms) p e h =
    let parts = and_parts (may_take r p x (may_use r Kanji && test x y) Kanji) _ h in
    search (arith, take-begin, and_parts, and_from, is-assignment test r xs ms WholePair refl (rw (state_after-whole p e) at parts.1))
is-assignment test r (x ∷ y ∷ xs) (Kanji ∷ m ∷ ms) p e h = search (arith, and_parts, state_after-whole, false≢true)
is-assignment test r (x ∷ xs) (m ∷ ms) p e h =
    search (arith, may_end-after, and_parts, take-begin, begin-is, and_from, add-one, is-assignment test r xs ms (state_after p m) (may_end-after p m (lit< tt)))
