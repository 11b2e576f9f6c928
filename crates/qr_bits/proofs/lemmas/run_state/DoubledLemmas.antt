-- A `%` that alphanumeric mode doubles takes two steps, so that what is known of modes of characters holds for modes of
-- bytes.
use Rattle.std.{proofs.{Common.{◌≡◌, ℕ, ◌<◌, Bool, true, ◌&&◌, List, [], ◌∷◌, length, refl, arith}, lemmas.Bool.{and_parts, false≢true}}, specs.List.list_all}
use Rattle.qr_bits.specs.declared.{modes.{Mode.{Mode, TheVariants.Kanji}, Rule.Rule}, run_state.RunState.RunState, interpretation.Interpretation.Interpretation}
use Rattle.qr_bits.specs.{Interpretation.{doubled, characters_in}, Segmentation.rank}
use Rattle.qr_bits.proofs.lemmas.interpretation.{characters_in-step, doubled-rank, doubled-step, single-byte, unwritten, written-none}
use Rattle.qr_bits.specs.Steps.RunState.{cost_of, state_after, state_in, may_take_in, allowed, allowed_in, cost_of_all, begins_with_pair, may_begin, may_take}

-- the bits that bytes add are those that their characters add
pub cost-written : (i : Interpretation) (v : ℕ) (p : RunState) (xs : List ℕ) (ms : List Mode) → cost_of v p (doubled i xs ms) ≡ cost_of_all i v p xs ms
unfolding cost_of_all cost_of
cost-written i v p [] ms = rw (written-none i ms).0 refl
cost-written i v p (x ∷ xs) [] = rw (unwritten i x xs).0 refl
cost-written i v p (x ∷ xs) (m ∷ ms) = search (arith, doubled-step, cost-written i v (state_in i p x m) xs ms)

-- only kanji mode asks whether a pair begins
pub take-other : (r : Rule) (p : RunState) (x : ℕ) (q t : Bool) (m : Mode) → rank m < 3 → may_take r p x q m ≡ may_take r p x t m
unfolding may_take may_begin
take-other r p x q t m h = grind arith

-- a byte in kanji mode is allowed before the characters of bytes as it is before the bytes
kanji-same : (i : Interpretation) (r : Rule) (test : ℕ → ℕ → Bool) (p : RunState) (x : ℕ) (xs : List ℕ) (ms : List Mode)
    → allowed r test (state_after p Kanji) (characters_in i xs ms) (doubled i xs ms) ≡ allowed_in i r test (state_after p Kanji) xs ms
    → (may_take r p x (begins_with_pair r test (x ∷ characters_in i xs ms)) Kanji && allowed r test (state_after p Kanji) (characters_in i xs ms) (doubled i xs ms))
    ≡ (may_take r p x (begins_with_pair r test (x ∷ xs)) Kanji && allowed_in i r test (state_after p Kanji) xs ms)
unfolding begins_with_pair may_take state_after allowed_in
kanji-same i r test p x xs ms h = search (arith, written-none, unwritten, characters_in-step, single-byte)

-- the characters of bytes are allowed exactly if the bytes are
pub allowed-written : (i : Interpretation) (r : Rule) (test : ℕ → ℕ → Bool) (p : RunState) (xs : List ℕ) (ms : List Mode)
    → allowed r test p (characters_in i xs ms) (doubled i xs ms) ≡ allowed_in i r test p xs ms
unfolding allowed_in allowed may_take may_begin state_after
allowed-written i r test p [] [] = search (arith, written-none)
allowed-written i r test p [] (m ∷ ms) = search (arith, written-none)
allowed-written i r test p (x ∷ xs) [] = search (arith, unwritten)
allowed-written i r test p (x ∷ xs) (Kanji ∷ ms) =
    search (arith, doubled-rank, doubled-step, characters_in-step, kanji-same, allowed-written i r test (state_after p Kanji) xs ms)
allowed-written i r test p (x ∷ xs) (m ∷ ms) =
    search (arith, doubled-rank, doubled-step, characters_in-step, take-other, allowed-written i r test (state_after (state_after p m) m) xs ms, allowed-written i r test (state_after p m) xs ms)

-- the rule allows the modes of the characters exactly if it allows those of the bytes
pub list_all-doubled : (i : Interpretation) (f : Mode → Bool) (xs : List ℕ) (ms : List Mode) → list_all f (doubled i xs ms) ≡ list_all f ms
list_all-doubled i f [] ms = rw (written-none i ms).0 refl
list_all-doubled i f (x ∷ xs) [] = rw (unwritten i x xs).0 refl
list_all-doubled i f (x ∷ xs) (m ∷ ms) = search (arith, doubled-step, list_all-doubled i f xs ms)

-- modes that are allowed are as many as the bytes
pub allowed-length : (i : Interpretation) (r : Rule) (test : ℕ → ℕ → Bool) (p : RunState) (xs : List ℕ) (ms : List Mode) → allowed_in i r test p xs ms ≡ true → length xs ≡ length ms
unfolding allowed_in
allowed-length i r test p [] [] h = refl
allowed-length i r test p [] (m ∷ ms) h = absurd (false≢true h)
allowed-length i r test p (x ∷ xs) [] h = absurd (false≢true h)
allowed-length i r test p (x ∷ xs) (m ∷ ms) h =
    omega (arith, allowed-length i r test (state_in i p x m) xs ms (and_parts (may_take_in i r p x (begins_with_pair r test (x ∷ xs)) m) _ h).1)
