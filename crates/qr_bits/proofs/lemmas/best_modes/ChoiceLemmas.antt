-- The best mode for a byte is the one whose number is the least.
use Rattle.std.proofs.Common.{◌≡◌, ℕ, ◌+◌, ◌*◌, ◌/◌, ◌%◌, ◌<◌, ◌≤◌, Bool, true, false, ◌&&◌, min, refl, ◌∙◌, ⊎_elim, arith}
use Rattle.std.proofs.lemmas.Bool.{cases_lt, cond_both, ne_eqb}
use Rattle.qr_bits.specs.{declared.interpretation.Interpretation.{Interpretation, TheVariants.{Default, Gs1, Eci}}, Interpretation.{character_for, is_doubled}}
use Rattle.qr_bits.proofs.lemmas.{interpretation.{doubled-rank, single-byte}, modes.digit-character}
use Rattle.qr_bits.specs.{declared.modes.{Mode.{Mode, TheVariants.{Numeric, Alphanumeric, Byte, Kanji}}, Rule.Rule}, Segmentation.rank, Modes.may_use}
use Rattle.qr_bits.specs.declared.run_state.{PerState.PerState, RunState.{RunState, TheVariants.{Start, Character2, InBytes, HalfPair}}}
use Rattle.qr_bits.specs.Steps.{BestModes.{bits_at, character_choice}, Segmentation.is_escaped}
use Rattle.qr_bits.specs.Steps.RunState.{is_gs1, state_after, state_in, state_on, byte_cost, cost_in, may_take_in, may_begin, may_take, may_end, choice_number, ranked, IsChoice}

-- the least of the numbers of the four modes
abbrev pub least_of : (Mode → Bool) → (Mode → ℕ) → ℕ
least_of may cost =
    min (choice_number (may Numeric) (cost Numeric) Numeric)
    (min (choice_number (may Alphanumeric) (cost Alphanumeric) Alphanumeric) (min (choice_number (may Byte) (cost Byte) Byte) (choice_number (may Kanji) (cost Kanji) Kanji)))

-- the number is that of a mode that may be used
abbrev IsTaken : (Mode → Bool) → (Mode → ℕ) → ℕ → Type 0
IsTaken may cost c = (m : Mode) × (may m ≡ true) × (c ≡ 4 * cost m + rank m)

taken-one : (may : Mode → Bool) (cost : Mode → ℕ) (m : Mode) (t : Bool) → t ≡ may m → choice_number t (cost m) m < 4294967295 → IsTaken may cost (choice_number t (cost m) m)
taken-one may cost m t e h = grind arith

taken-min : (may : Mode → Bool) (cost : Mode → ℕ) (a b : ℕ) → (a < 4294967295 → IsTaken may cost a) → (b < 4294967295 → IsTaken may cost b) → min a b < 4294967295 → IsTaken may cost (min a b)
taken-min may cost a b f g h = ⊎_elim (search arith)
    (search arith) (cases_lt a b)

taken-least : (m : Mode → Bool) (f : Mode → ℕ) → least_of m f < 4294967295 → IsTaken m f (least_of m f)
taken-least m f =
    taken-min m f _ _ (taken-one m f Numeric _ refl) (search (arith, taken-min, taken-one))

ranked-number : (c b : ℕ) (m : Mode) → c ≡ 4 * b + rank m → ranked (c % 4) ≡ m
ranked-number c b m e = grind arith

-- each rule allows byte mode
pub byte-used : (r : Rule) → may_use r Byte ≡ true
byte-used r = grind arith

rank-below : (m : Mode) → rank m < 4
rank-below m = grind arith

-- if no half pair is open, the modes that may be used are those that may begin
pub take-begin : (r : Rule) (p : RunState) (x : ℕ) (pair : Bool) (m : Mode) → may_end p ≡ true → may_take r p x pair m ≡ may_begin r x pair m
unfolding may_end may_take
take-begin r p x pair m e = grind arith

-- the characters of a byte add at most 33 bits
pub cost_in-bound : (i : Interpretation) (v : ℕ) (p : RunState) (x : ℕ) (m : Mode) → cost_in i v p x m ≤ 33
unfolding byte_cost state_after
cost_in-bound i v p x m = search (arith, cond_both, doubled-rank)

-- after half a pair, kanji mode is the choice
pub half-choice : (i : Interpretation) (v : ℕ) (r : Rule) (x : ℕ) (pair : Bool) (cost : RunState → ℕ) (c : ℕ) (m : Mode) → m ≡ ranked (c % 4)
    → c ≡ choice_number true (byte_cost v HalfPair Kanji + cost (state_after HalfPair Kanji)) Kanji → IsChoice i v r HalfPair x pair cost m (c / 4)
unfolding may_take byte_cost state_after
half-choice i v r x pair cost c m chosen is = rw chosen (search (arith, ranked-number))

-- the least number is that of the mode of lowest rank among those that lead to the fewest bits
pub least-choice : (i : Interpretation) (v : ℕ) (r : Rule) (p : RunState) (x : ℕ) (q : Bool) (cost : RunState → ℕ) (c : ℕ) (n : Mode) → n ≡ ranked (c % 4) → may_end p ≡ true → cost InBytes < 10000000
    → c ≡ least_of (λ k. may_begin r (character_for i x k) q k) (λ k. cost_in i v p x k + cost (state_in i p x k)) → IsChoice i v r p x q cost n (c / 4)
unfolding may_begin state_after
least-choice i v r p x q cost c n chosen e small is =
    let may : Mode → Bool = λ k. may_begin r (character_for i x k) q k in
    let t : Mode → ℕ = λ k. cost_in i v p x k + cost (state_in i p x k) in
    let take : (k : Mode) → may_take_in i r p x q k ≡ may k = λ k. take-begin r p (character_for i x k) q k e in
    let under : (k : Mode) → may_take_in i r p x q k ≡ true → c ≤ 4 * t k + rank k = λ k ok. rw is (search arith) in
    let most : c ≤ 4 * t Byte + rank Byte = under Byte (take Byte ∙ byte-used r) in
    let later : cost (state_in i p x Byte) < 10000000 = search (arith, single-byte) in
    let few : c < 4294967295 = omega (arith, cost_in-bound i v p x Byte) in
    let taken : IsTaken may t c = rw is (taken-least may t (rw is at few)) in
    let m = taken.0 in
    rw (chosen, ranked-number c (t m) m taken.2) (search (arith, rank-below))

-- As `least-choice`. What is written for the byte makes a difference in alphanumeric mode alone.
pub row-choice : (i : Interpretation) (v : ℕ) (r : Rule) (p : RunState) (x : ℕ) (q : Bool) (rest : PerState) (c : ℕ) (n : Mode) → n ≡ ranked (c % 4) → may_end p ≡ true → bits_at rest InBytes < 10000000
    → c ≡ min (choice_number (may_begin r x q Numeric) (byte_cost v p Numeric + bits_at rest (state_after p Numeric)) Numeric)
    (min (character_choice i v r x q rest p)
    (min (choice_number (may_begin r x q Byte) (byte_cost v p Byte + bits_at rest (state_after p Byte)) Byte) (choice_number (may_begin r x q Kanji) (byte_cost v p Kanji + bits_at rest (state_after p Kanji)) Kanji)))
    → IsChoice i v r p x q (bits_at rest) n (c / 4)
row-choice Default v r p x q rest c n chosen e small is = search (arith, least-choice)
row-choice (Eci k) v r p x q rest c n chosen e small is = search (arith, least-choice)
row-choice Gs1 v r p x q rest c n chosen e small is = search (arith, least-choice)

-- without the bits of a segment's indicators the number is no larger
pub number-less : (may : Bool) (m : Mode) (k w n : ℕ) → choice_number may (k + n) m ≤ choice_number may (4 + w + k + n) m
number-less may m k w n = grind arith

-- after a whole pair alphanumeric mode takes no more bits than at the start
pub character-less : (i : Interpretation) (v : ℕ) (r : Rule) (x : ℕ) (q : Bool) (rest : PerState) → character_choice i v r x q rest Character2 ≤ character_choice i v r x q rest Start
unfolding byte_cost state_after
character-less i v r x q rest = grind (arith, number-less)

no-escape : (r : Rule) (x : ℕ) (q : Bool) → may_begin r x q Numeric ≡ true → (is_doubled Gs1 x Alphanumeric ≡ false) × (character_for Gs1 x Alphanumeric ≡ x)
unfolding may_begin
no-escape r x q h = grind (arith, ne_eqb)

-- a digit is one character, and may be written in alphanumeric mode
pub digit-written : (i : Interpretation) (r : Rule) (x : ℕ) (q : Bool) → may_begin r x q Numeric ≡ true
    → (is_doubled i x Alphanumeric ≡ false) × (may_begin r (character_for i x Alphanumeric) q Alphanumeric ≡ true)
digit-written i r x q h = grind (arith, digit-character, no-escape)

-- a byte that alphanumeric mode writes as itself is one character
pub own-character : (i : Interpretation) (x : ℕ) → (is_gs1 i && is_escaped Alphanumeric x) ≡ false → (is_doubled i x Alphanumeric ≡ false) × (character_for i x Alphanumeric ≡ x)
own-character i x h = grind arith

-- a byte in kanji mode begins a pair if no half pair is open
pub state_after-whole : (p : RunState) → may_end p ≡ true → state_after p Kanji ≡ HalfPair
unfolding may_end state_after
state_after-whole p e = grind arith

-- the state after one more byte in the mode of the last one
pub on-after : (p : RunState) (m : Mode) → state_on (state_after p m) ≡ state_after (state_after p m) m
unfolding state_on state_after
on-after p m = grind arith
