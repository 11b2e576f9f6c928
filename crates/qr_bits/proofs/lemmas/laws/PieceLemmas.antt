-- Without kanji mode, a piece of an input needs no more bits than the input.
use Rattle.std.proofs.Common.{◌≡◌, ℕ, ◌+◌, ◌<◌, ◌≤◌, true, false, List, [], ◌∷◌, ◌++◌, refl, ◌∙◌, arith}
use Rattle.std.{proofs.lemmas.Bool.{and_parts, and_from, cond_both, false≢true}, specs.List.list_all}
use Rattle.qr_bits.specs.{declared.{modes.{Mode.{Mode, TheVariants.Kanji}, Rule.Rule}, run_state.RunState.RunState}, Modes.{may_use, is_kanji_pair}}
use Rattle.qr_bits.specs.{declared.run_state.RunState.TheVariants.{Start, Digit1, Digit2, Digit3, Character1, Character2}, Segmentation.{rank, HasFit}}
use Rattle.qr_bits.specs.{declared.interpretation.Interpretation.Interpretation, Interpretation.{characters_in, doubled}}
use Rattle.qr_bits.specs.Steps.RunState.{state_after, state_in, byte_cost, begins_with_pair, may_take_in, may_end, allowed_in, cost_of, cost_of_all}
use Rattle.qr_bits.proofs.lemmas.{interpretation.doubled-step, run_state.DoubledLemmas.{allowed-written, cost-written, take-other}}
use Rattle.qr_bits.proofs.lemmas.{best_modes.TableLemmas.in-end, segmentation.AssignedLemmas.{allowed-assigned, assigned-allowed, bits-assigned}}
use Rattle.qr_bits.proofs.lemmas.run_state.AssignmentLemmas.{can-take, is-assignment}

-- the state of a run after one more byte
abbrev ahead : RunState → RunState
ahead Digit1 = Digit2
ahead Digit2 = Digit3
ahead Digit3 = Digit1
ahead Character1 = Character2
ahead Character2 = Character1
ahead p = p

-- how many more bits a rest can take if it begins one byte later in a run
abbrev lag : RunState → ℕ
lag Digit3 = 1
lag Character2 = 1
lag _ = 0

behind-ahead : (v : ℕ) (p : RunState) (ms : List Mode) → cost_of v p ms ≤ cost_of v (ahead p) ms + lag p
unfolding cost_of byte_cost state_after
behind-ahead v p [] = omega arith
behind-ahead v p (m ∷ ms) = grind (arith, behind-ahead v (state_after p m) ms)

without-first : (v : ℕ) (m : Mode) (ms : List Mode) → rank m < 3 → cost_of v Start ms ≤ cost_of v Start (m ∷ ms)
unfolding cost_of byte_cost state_after
without-first v m [] h = omega arith
without-first v m (k ∷ ms) h = search (arith, behind-ahead)

-- the rule does not allow kanji mode
abbrev pub IsPlain : Rule → Type 0
IsPlain r = may_use r Kanji ≡ false

plain : (r : Rule) (m : Mode) → IsPlain r → may_use r m ≡ true → rank m < 3
plain r m p h = grind arith

abbrev CanUse : Rule → List Mode → Type 0
CanUse r ms = list_all (may_use r) ms ≡ true

-- if modes of `xs ++ ys` are allowed, some modes of `xs` are allowed too, and add no more bits
piece-first : (i : Interpretation) (v : ℕ) (r : Rule) (p : RunState) (xs ys : List ℕ) (ms : List Mode) → IsPlain r → CanUse r ms →
    may_end p ≡ true → allowed_in i r is_kanji_pair p (xs ++ ys) ms ≡ true →
    (ks : List Mode) × (allowed_in i r is_kanji_pair p xs ks ≡ true) × (cost_of_all i v p xs ks ≤ cost_of_all i v p (xs ++ ys) ms)
unfolding allowed_in cost_of_all cost_of
piece-first i v r p [] ys ms n u e h = ([], e, omega arith)
piece-first i v r p (x ∷ xs) ys [] n u e h = absurd (false≢true h)
piece-first i v r p (x ∷ xs) ys (m ∷ ms) n u e h =
    let use_ = and_parts (may_use r m) (list_all (may_use r) ms) u in
    let parts = and_parts (may_take_in i r p x (begins_with_pair r is_kanji_pair (x ∷ (xs ++ ys))) m) _ h in
    let rest = piece-first i v r (state_in i p x m) xs ys ms n use_.1 (in-end i p x m (plain r m n use_.0)) parts.1 in (m ∷ rest.0, search (arith, and_from, take-other), omega arith)

-- what is allowed after a state is allowed at the start, if no half pair is open
from-start : (i : Interpretation) (r : Rule) (p : RunState) (xs : List ℕ) (ms : List Mode) → may_end p ≡ true → allowed_in i r is_kanji_pair p xs ms ≡ true → allowed_in i r is_kanji_pair Start xs ms ≡ true
unfolding may_end
from-start i r p xs ms e h =
    cc (allowed-written i r is_kanji_pair Start xs ms, can-take is_kanji_pair r _ _ (is-assignment is_kanji_pair r (characters_in i xs ms) (doubled i xs ms) p e (allowed-written i r is_kanji_pair p xs ms ∙ h)) Start refl)

-- without the first byte there are no more bits
without-byte : (i : Interpretation) (v : ℕ) (x : ℕ) (xs : List ℕ) (m : Mode) (ms : List Mode) → rank m < 3 → cost_of_all i v Start xs ms ≤ cost_of_all i v Start (x ∷ xs) (m ∷ ms)
without-byte i v x xs m ms low =
    let ks = doubled i xs ms in
    rw (← cost-written i v Start xs ms, ← cost-written i v Start (x ∷ xs) (m ∷ ms), doubled-step i x xs m ms)
    (search (arith, cond_both, without-first))

-- if modes of `xs ++ ys` are allowed, some modes of `ys` are allowed too, and add no more bits
back : (i : Interpretation) (v : ℕ) (r : Rule) (xs ys : List ℕ) (ms : List Mode) → IsPlain r → CanUse r ms → allowed_in i r is_kanji_pair Start (xs ++ ys) ms ≡ true
    → (ks : List Mode) × CanUse r ks × (allowed_in i r is_kanji_pair Start ys ks ≡ true) × (cost_of_all i v Start ys ks ≤ cost_of_all i v Start (xs ++ ys) ms)
unfolding allowed_in may_end
back i v r [] ys ms n u h = (ms, u, h, omega arith)
back i v r (x ∷ xs) ys [] n u h = absurd (false≢true h)
back i v r (x ∷ xs) ys (m ∷ ms) n u h =
    let use_ = and_parts (may_use r m) (list_all (may_use r) ms) u in
    let parts = and_parts (may_take_in i r Start x (begins_with_pair r is_kanji_pair (x ∷ (xs ++ ys))) m) _ h in
    search (arith, in-end, plain, without-byte, is-assignment, allowed-written, can-take, back i v r xs ys ms n use_.1 (search (arith, from-start, in-end, plain)))

-- If an input fits, each piece of it fits.
pub piece-fits : (i : Interpretation) (v : ℕ) (r : Rule) (xs ys zs : List ℕ) (n : ℕ) → may_use r Kanji ≡ false → HasFit i v r (xs ++ (ys ++ zs)) n → HasFit i v r ys n
unfolding may_end
piece-fits i v r xs ys zs n none fit =
    let b = back i v r xs (ys ++ zs) fit.0 none fit.1.0 (assigned-allowed i r (xs ++ (ys ++ zs)) fit.0 fit.1) in
    search (arith, allowed-assigned, bits-assigned, piece-first i v r Start ys zs b.0 none b.1 refl b.2)
