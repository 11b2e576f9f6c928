-- A table of best modes, filled from the last byte to the first.
use Rattle.std.proofs.Common.{◌≡◌, ℕ, ◌+◌, ◌*◌, ◌%◌, ◌≤◌, Bool, true, List, [], ◌∷◌, length, replicate, IsTrue, refl, ◌<◌}
use Rattle.std.proofs.{Common.{◌/◌, ◌^◌, false, arith, lit<}, lemmas.Bool.{false≢true, and_from, cond_both}}
use Rattle.qr_bits.specs.{declared.{modes.{Mode.{Mode, TheVariants.{Byte, Kanji}}, Rule.Rule}, run_state.RunState.RunState}, Segmentation.rank}
use Rattle.qr_bits.specs.declared.{interpretation.Interpretation.{Interpretation, TheVariants.{Default, Gs1}}, run_state.PerState.PerState}
use Rattle.qr_bits.specs.declared.run_state.RunState.TheVariants.{Start, Digit1, Digit2, Digit3, Character1, Character2, InBytes, HalfPair, WholePair}
use Rattle.qr_bits.specs.Steps.RunState.{is_gs1, state_after, state_in, may_take_in, begins_with_pair, may_begin, may_take, may_end, allowed_in, cost_of, cost_of_all, ranked}
use Rattle.qr_bits.specs.Steps.BestModes.{in_state, bits_at, mode_at, follow, follow_in, shift_of, IsRow, IsSmall}
use Rattle.qr_bits.proofs.lemmas.{run_state.{BestLemmas.BestBelow, AssignmentLemmas.may_end-after}, interpretation.single-byte}
use Rattle.qr_bits.proofs.lemmas.best_modes.ChoiceLemmas.{byte-used, cost_in-bound, take-begin}

-- data of GS1 have an interpretation, and other data too
pub some-interpretation : (g : Bool) → (i : Interpretation) × (g ≡ is_gs1 i)
some-interpretation true = (Gs1, refl)
some-interpretation false = (Default, refl)

-- byte mode for each byte is an allowed rest if no half pair is open
pub bytes-rest : (i : Interpretation) (r : Rule) (test : ℕ → ℕ → Bool) (p : RunState) (xs : List ℕ) → may_end p ≡ true → allowed_in i r test p xs (replicate (length xs) Byte) ≡ true
unfolding allowed_in may_begin may_end state_after
bytes-rest i r test p [] e = e
bytes-rest i r test p (x ∷ xs) e = search (arith, and_from, take-begin, byte-used, single-byte, bytes-rest i r test InBytes xs refl)

-- no half pair is open after a byte that is not in kanji mode
pub in-end : (i : Interpretation) (p : RunState) (x : ℕ) (m : Mode) → rank m < 3 → may_end (state_in i p x m) ≡ true
in-end i p x m k = search (arith, cond_both, may_end-after)

-- after a mode that the byte `x` may have, some modes of the later bytes are allowed
rest-after : (i : Interpretation) (r : Rule) (t : ℕ → ℕ → Bool) (p : RunState) (x : ℕ) (xs : List ℕ) (m : Mode) → may_take_in i r p x (begins_with_pair r t (x ∷ xs)) m ≡ true
    → (ks : List Mode) × IsTrue (allowed_in i r t (state_in i p x m) xs ks)
unfolding may_take may_begin begins_with_pair allowed_in state_after may_end
rest-after i r t HalfPair x xs Kanji h = (replicate (length xs) Byte, rw (single-byte i x).1 (bytes-rest i r t WholePair xs refl))
rest-after i r t _ x [] Kanji h = absurd (false≢true h)
rest-after i r t _ x (y ∷ xs) Kanji h =
    (Kanji ∷ replicate (length xs) Byte, rw ((single-byte i x).1, (single-byte i y).1) (bytes-rest i r t WholePair xs refl))
rest-after i r t p x xs m h = (replicate (length xs) Byte, bytes-rest i r t (state_in i p x m) xs (in-end i p x m (lit< tt)))

-- the table without a row
pub best-none : (i : Interpretation) (v : ℕ) (r : Rule) (test : ℕ → ℕ → Bool) (cost : RunState → ℕ) → ((p : RunState) → cost p ≡ 0) → BestBelow i v r test [] (λ p. follow_in i p [] []) cost
unfolding follow_in allowed_in cost_of_all cost_of
best-none i v r test cost zeros p ks h = grind (arith, zeros p)

-- the table with one more row
pub best-more : (i : Interpretation) (v : ℕ) (r : Rule) (test : ℕ → ℕ → Bool) (x : ℕ) (xs rows : List ℕ) (row : ℕ) (rest numbers : PerState)
    → BestBelow i v r test xs (λ p. follow_in i p xs rows) (bits_at rest)
    → IsRow i v r x (begins_with_pair r test (x ∷ xs)) rest row numbers
    → BestBelow i v r test (x ∷ xs) (λ p. follow_in i p (x ∷ xs) (row ∷ rows)) (bits_at numbers)
unfolding follow_in allowed_in cost_of_all
best-more i v r test x xs rows row rest numbers below choice p ks h = search (arith, rest-after)

-- a byte adds at most 33 bits to the bits of a rest
pub small-more : (i : Interpretation) (v : ℕ) (r : Rule) (x : ℕ) (pair : Bool) (row : ℕ) (rest numbers : PerState) (n : ℕ)
    → ((p : RunState) → bits_at rest p ≤ 33 * n) → IsRow i v r x pair rest row numbers → (p : RunState) → bits_at numbers p ≤ 33 * (n + 1)
small-more i v r x pair row rest numbers n small choice p = search (arith, cost_in-bound)

-- numbers of at most 33 bits for each byte are small
pub small-row : (rest : PerState) (n : ℕ) → n ≤ 113425 → ((p : RunState) → bits_at rest p ≤ 33 * n) → IsSmall rest
unfolding in_state
small-row rest n few small =
    omega (arith, small Start, small Digit1, small Digit2, small Digit3, small Character1, small Character2, small InBytes, small HalfPair, small WholePair)

pub zeros : (p : RunState) → bits_at (record { start = 0; digit1 = 0; digit2 = 0; digit3 = 0; character1 = 0; character2 = 0; in_bytes = 0; half_pair = 0; whole_pair = 0 }) p ≡ 0
unfolding in_state
zeros p = grind arith

-- the modes of all numbers as one row: two bits for each state
abbrev pub packed : PerState → ℕ
packed n = n.start % 4 + 4 * (n.digit1 % 4 + 4 * (n.digit2 % 4 + 4 * (n.digit3 % 4 + 4 * (n.character1 % 4 + 4 * (n.character2 % 4 + 4 * (n.in_bytes % 4 + 4 * (n.half_pair % 4 + 4 * (n.whole_pair % 4))))))))

-- the mode for a state in a row
pub packed_mode : (n : PerState) (p : RunState) → mode_at (packed n) p ≡ ranked (in_state n p % 4)
unfolding mode_at in_state
packed_mode n p = let e : packed n / 2 ^ shift_of p % 4 ≡ in_state n p % 4 = grind arith in cc

-- a row with its flag has the same modes
pub flagged_mode : (row : ℕ) (p : RunState) → mode_at (row + 262144) p ≡ mode_at row p
unfolding mode_at
flagged_mode row p = let e : (row + 262144) / 2 ^ shift_of p % 4 ≡ row / 2 ^ shift_of p % 4 = grind arith in cc

-- without FNC1 the rows are followed as they stand
pub follow-default : (p : RunState) (xs rows : List ℕ) → length rows ≡ length xs → follow_in Default p xs rows ≡ follow p rows
unfolding follow_in follow
follow-default p [] [] h = refl
follow-default p [] (row ∷ rows) h = absurd (omega arith)
follow-default p (x ∷ xs) [] h = absurd (omega arith)
follow-default p (x ∷ xs) (row ∷ rows) h = cc (follow-default (state_after p (mode_at row p)) xs rows (omega arith))
