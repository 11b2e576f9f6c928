-- The table of best modes. It has a row for each byte, with the best mode of the byte for each state that may come
-- before it. (The file `RunState` says what a state is.) A choice is a mode of a byte, with the least number of bits
-- that this byte and all later ones can then take. `rest` has the best choices for the next byte, one for each state
-- that may come before it. `pair` says whether the byte may begin a kanji pair.
use Rattle.std.specs.Prelude.{◌≡◌, ℕ, ◌+◌, ◌<◌, ◌/◌, ◌%◌, ◌^◌, nat_le, Bool, List, [], ◌∷◌, map, IsTrue}
use Rattle.qr_bits.specs.declared.modes.Mode.{Mode}
use Rattle.qr_bits.specs.declared.modes.Mode.TheVariants.{Alphanumeric}
use Rattle.qr_bits.specs.declared.modes.Rule.{Rule}
use Rattle.qr_bits.specs.declared.run_state.RunState.{RunState}
use Rattle.qr_bits.specs.declared.run_state.RunState.TheVariants.{Start, Digit1, Digit2, Digit3, Character1, Character2, InBytes, HalfPair, WholePair}
use Rattle.qr_bits.specs.declared.run_state.PerState.{PerState}
use Rattle.qr_bits.specs.declared.best_modes.CharacterChoices.{CharacterChoices}
use Rattle.qr_bits.specs.declared.interpretation.Interpretation.{Interpretation}
use Rattle.qr_bits.specs.Interpretation.{character_for}
use Rattle.qr_bits.specs.Steps.Segmentation.{is_escaped}
use Rattle.qr_bits.specs.Steps.RunState.{state_after, state_in, cost_in, may_begin, allowed_in, choice_number, ranked, IsBestRest, IsChoice}

-- The choice that `b` has for the given state. It is stored as one number: 4 times its bits, plus the rank of its mode
unfoldable pub in_state : PerState → RunState → ℕ
in_state b Start = b.start
in_state b Digit1 = b.digit1
in_state b Digit2 = b.digit2
in_state b Digit3 = b.digit3
in_state b Character1 = b.character1
in_state b Character2 = b.character2
in_state b InBytes = b.in_bytes
in_state b HalfPair = b.half_pair
in_state b WholePair = b.whole_pair

-- The number of bits of the choice that `numbers` has for the state `p`
abbrev pub bits_at : PerState → RunState → ℕ
bits_at numbers p = in_state numbers p / 4

-- The choice of alphanumeric mode for the byte `x` after the state `p`, as a number: 4 times its bits, plus the rank of
-- the mode
abbrev pub character_choice : Interpretation → ℕ → Rule → ℕ → Bool → PerState → RunState → ℕ
character_choice i v r x pair rest p =
    choice_number (may_begin r (character_for i x Alphanumeric) pair Alphanumeric) (cost_in i v p x Alphanumeric + bits_at rest (state_in i p x Alphanumeric)) Alphanumeric

-- `c` has three choices of alphanumeric mode for the byte `x`, as numbers. They are for three states: `x` begins a
-- segment, `x` comes after the first character of a group of two, or `x` comes after the second
abbrev pub AreCharacterChoices : Interpretation → ℕ → Rule → ℕ → Bool → PerState → CharacterChoices → Type 0
AreCharacterChoices i v r x pair rest c =
    (c.first ≡ character_choice i v r x pair rest Start) × (c.second ≡ character_choice i v r x pair rest Character1) × (c.next ≡ character_choice i v r x pair rest Character2)

-- The numbers of the choices for the nine states are below 40,000,000. For inputs of at most `INPUT_MAX` bytes choices
-- do not reach this bound. If the bits of one more byte are added to a choice below the bound, the sum still fits 32
-- bits
abbrev pub IsSmall : PerState → Type 0
IsSmall n =
    (n.start < 40000000) × (n.digit1 < 40000000) × (n.digit2 < 40000000) × (n.digit3 < 40000000) × (n.character1 < 40000000)
    × (n.character2 < 40000000) × (n.in_bytes < 40000000) × (n.half_pair < 40000000) × (n.whole_pair < 40000000)

-- A row is a number in which each state has two bits, for the mode that is best after this state. The value is the
-- index of the lower of the two bits of the given state, where bit 0 is the lowest of the row
abbrev pub shift_of : RunState → ℕ
shift_of Start = 0
shift_of Digit1 = 2
shift_of Digit2 = 4
shift_of Digit3 = 6
shift_of Character1 = 8
shift_of Character2 = 10
shift_of InBytes = 12
shift_of HalfPair = 14
shift_of WholePair = 16

-- The mode that the row has for the state `p`
unfoldable pub mode_at : ℕ → RunState → Mode
mode_at row p = ranked (row / 2 ^ shift_of p % 4)

-- The flag of the row is set. It is bit 18, the bit above those of the nine states. A row for a byte of GS1 data has
-- this flag if alphanumeric mode does not write the byte as the byte itself
abbrev pub is_flagged : ℕ → Bool
is_flagged row = nat_le 262144 row

-- `rows` has a row of the table for each byte of `xs`, which are GS1 data. The flag of a row is set exactly if
-- alphanumeric mode does not write the row's byte as the byte itself
abbrev pub AreFlagged : List ℕ → List ℕ → Type 0
AreFlagged xs rows = map is_flagged rows ≡ map (is_escaped Alphanumeric) xs

-- For each state before the byte `x`, `numbers` has the best choice, and `row` has the mode of this choice
abbrev pub IsRow : Interpretation → ℕ → Rule → ℕ → Bool → PerState → ℕ → PerState → Type 0
IsRow i v r x pair rest row numbers = (p : RunState) → IsChoice i v r p x pair (bits_at rest) (mode_at row p) (bits_at numbers p)

-- The modes that are read from the rows, one from each row. The first row is read for the state `p`. Each further row
-- is read for the state after the mode that was read from the row before
unfoldable pub follow : RunState → List ℕ → List Mode
follow p [] = []
follow p (row ∷ rows) = mode_at row p ∷ follow (state_after p (mode_at row p)) rows

-- The modes that are read from the rows for the bytes `xs`, one from each row. The first row is read for the state `p`.
-- Each further row is read for the state after the byte before it, which may be written as one or two characters
unfoldable pub follow_in : Interpretation → RunState → List ℕ → List ℕ → List Mode
follow_in i p [] rows = []
follow_in i p (x ∷ xs) [] = []
follow_in i p (x ∷ xs) (row ∷ rows) = mode_at row p ∷ follow_in i (state_in i p x (mode_at row p)) xs rows

-- For each state `p`, the modes that are read from the rows are the best assignment to the bytes `xs` after this state,
-- if any assignment is allowed after it
abbrev pub IsBestTable : Interpretation → ℕ → Rule → (ℕ → ℕ → Bool) → List ℕ → List ℕ → Type 0
IsBestTable i v r test xs rows = (p : RunState) (ks : List Mode) → IsTrue (allowed_in i r test p xs ks) → (n : ℕ) × IsBestRest i v r test p xs (follow_in i p xs rows) n
