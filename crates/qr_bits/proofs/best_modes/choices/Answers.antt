use Rattle.qr_bits.proofs.lemmas.best_modes.ChoiceLemmas.{byte-used, character-less, half-choice, number-less, row-choice}
use Rattle.qr_bits.specs.Steps.{BestModes.{in_state, bits_at, character_choice}, RunState.{state_after, byte_cost, may_begin, may_end, choice_number}}
use Rattle.qr_bits.specs.declared.{modes.Mode.{Mode, TheVariants.{Numeric, Byte, Kanji}}, run_state.RunState.RunState}
use Rattle.qr_bits.specs.declared.run_state.RunState.TheVariants.{Start, Digit1, Digit2, Digit3, Character1, Character2, InBytes, HalfPair, WholePair}
use Rattle.std.proofs.{Common.{rules, ◌≡◌, ◌+◌, ◌<◌, ◌≤◌, ℕ, min, refl, ap, ◌∙◌, arith}, Math.Nat.{div-lt_iff_lt-mul, min-eq_left}, lemmas.Nat.pow_pos}
use Rattle.qr_bits.proofs.best_modes.choices.Goals as goal

under : (a b n : ℕ) → a ≤ b → min a (min b n) ≡ min a n
under a b n h = omega arith

swap : (a b n : ℕ) → min a (min b n) ≡ min b (min a n)
swap a b n = omega arith

-- the least choice in a state, as the least of the four modes, if the choice of its own mode is no more than at the
-- start
minima : (n a b k d c2 c1 b1 k1 : ℕ) → d ≤ n → c1 ≤ a → b1 ≤ b → k1 ≤ k → let s = min n (min a (min b k)) in
    (min d s ≡ min d (min a (min b k))) × (min c2 (min n (min b k)) ≡ min n (min c2 (min b k))) × (min c1 s ≡ min n (min c1 (min b k))) × (min b1 s ≡ min n (min a (min b1 k))) × (min k1 s ≡ min n (min a (min b k1)))
minima n a b k d c2 c1 b1 k1 h i j l = (
  under d n _ h,
  swap c2 n _,
  swap c1 n _ ∙ ap (min n) (under c1 a _ i),
  swap b1 n _ ∙ ap (min n) (swap b1 a _ ∙ ap (min a) (under b1 b k j)),
  swap k1 n _ ∙ ap (min n) (search (rules, swap, min-eq_left)),
)

pub returns-clause-row : goal.returns-clause-row
unfolding may_begin may_end byte_cost state_after in_state
returns-clause-row c = λ i r x digit characters.
    let h = c.args.first_choices.now in
    let v = h.version in
    let t = c.args.pair in
    let rest = c.args.rest.now in
    let of : RunState → Mode → ℕ = λ q k. choice_number (may_begin r x t k) (byte_cost v q k + bits_at rest (state_after q k)) k in
    let written : RunState → ℕ = character_choice i v r x t rest in
    let s : bits_at rest InBytes < 10000000 = (div-lt_iff_lt-mul {k = 4} {x = rest.in_bytes} {y = 10000000} (pow_pos 2)).1 c.requires.6 in
    let n = rw digit at (c.choice_if-digits.ensures _ Numeric h.numeric_is) in
    let b : c.choice_if-bytes.result ≡ of Start Byte = rw (byte-used r) (c.choice_if-bytes.ensures _ Byte h.byte_is) in
    let d1 = rw digit at c.next_if-digit1.ensures in
    let b1 : c.next_if-in_bytes.result ≡ of InBytes Byte = rw (byte-used r) c.next_if-in_bytes.ensures in
    let bk = rw (b, c.choice_if-pairs.ensures _ Kanji h.kanji_is) at c.min-others.ensures in
    let ab = rw (characters.0, bk) at c.min-no_digits.ensures in
    let nbk = rw (n, bk) at c.min-no_characters.ensures in
    let start = rw (n, ab) at c.min-start.ensures in
    let m = minima (of Start Numeric) (written Start) (of Start Byte) (of Start Kanji) (of Digit3 Numeric) (written Character1) (written Character2) (of InBytes Byte) (of WholePair Kanji)
    (number-less _ Numeric 4 _ _) (character-less i v r x t rest) (number-less _ Byte 8 _ _) (number-less _ Kanji 13 _ _) in
    elim [
      | Start ↦ row-choice i v r Start x t rest _ _ (c.row_for.ensures.modes Start) refl s start
      | Digit1 ↦ row-choice i v r Digit1 x t rest _ _ (c.row_for.ensures.modes Digit1) refl s (rw (rw digit at c.next_if-digit2.ensures, ab) at c.min.ensures)
      | Digit2 ↦ row-choice i v r Digit2 x t rest _ _ (c.row_for.ensures.modes Digit2) refl s (rw (rw digit at c.next_if-digit3.ensures, ab) at c.min-2.ensures)
      | Digit3 ↦ row-choice i v r Digit3 x t rest _ _ (c.row_for.ensures.modes Digit3) refl s ((rw (d1, start) at c.min-3.ensures) ∙ m.0)
      | Character1 ↦ row-choice i v r Character1 x t rest _ _ (c.row_for.ensures.modes Character1) refl s ((rw (characters.1, nbk) at c.min-4.ensures) ∙ m.1)
      | Character2 ↦ row-choice i v r Character2 x t rest _ _ (c.row_for.ensures.modes Character2) refl s ((rw (characters.2, start) at c.min-5.ensures) ∙ m.2)
      | InBytes ↦ row-choice i v r InBytes x t rest _ _ (c.row_for.ensures.modes InBytes) refl s ((rw (b1, start) at c.min-6.ensures) ∙ m.3)
      | HalfPair ↦ half-choice i v r x t _ _ _ (c.row_for.ensures.modes HalfPair) c.next_if-whole_pair.ensures
      | WholePair ↦ row-choice i v r WholePair x t rest _ _ (c.row_for.ensures.modes WholePair) refl s ((rw (c.next_if-half_pair.ensures, start) at c.min-7.ensures) ∙ m.4)
    ]
