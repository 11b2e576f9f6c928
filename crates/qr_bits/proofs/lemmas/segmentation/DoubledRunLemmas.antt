-- The segments and characters of GS1 data, byte by byte.
use Rattle.std.proofs.lemmas.Bool.Decides.{nat_tests}
use Rattle.qr_bits.proofs.lemmas.{segmentation.BackLemmas.append_mode-last, best_modes.ChoiceLemmas.on-after}
use Rattle.std.proofs.Common.{◌≡◌, ℕ, ◌+◌, ◌*◌, ◌-◌, ◌<◌, ◌≤◌, Bool, true, false, cond, List, [], ◌∷◌, ◌++◌, length, get_or, take, drop, reverse, append_assoc, sym, ap, ◌∙◌, arith}
use Rattle.std.proofs.lemmas.{Bool.{cond_both, eqb-true}, List.{append-nil, drop_more, get_or-drop, length-append, length-drop, length-take-le, reverse-append, take_more}}
use Rattle.qr_bits.specs.declared.{modes.Mode.{Mode, TheVariants.Alphanumeric}, segmentation.Segment.Segment, run_state.RunState.{RunState}}
use Rattle.qr_bits.specs.{declared.interpretation.Interpretation.TheVariants.Gs1, Segmentation.runs_of}
use Rattle.qr_bits.specs.Interpretation.{character_for, characters_gs1, doubled_gs1, is_doubled, percent}
use Rattle.qr_bits.specs.Steps.{BestModes.{AreFlagged, follow_in, mode_at}, RunState.{state_after, state_in, state_on}, Segmentation.{append_mode, is_escaped, one_segment}}
use Rattle.qr_bits.proofs.lemmas.{interpretation.{written-append, written-one}, segmentation.BackLemmas.runs_of-push}

-- of the bytes `xs` the first `i`, whose modes were read, have the segments `found` and one of `n` characters, and
-- their characters are `chars` and the bytes from `copied` on; `rows` are left of the table
pub record IsWritten (xs : List ℕ) (all : List Mode) (i : ℕ) (found : List Segment) (m : Mode) (n : ℕ) (p : RunState) (rows : List ℕ) (chars : List ℕ) (copied : ℕ) : Type 0 where
  pub modes : List Mode
  pub many : length modes ≡ i
  pub runs : found ++ one_segment m n ≡ runs_of (doubled_gs1 (take i xs) modes)
  pub characters : chars ++ take (i - copied) (drop copied xs) ≡ characters_gs1 (take i xs) modes
  pub led : modes ++ follow_in Gs1 p (drop i xs) (reverse rows) ≡ all
  pub flags : AreFlagged (drop i xs) (reverse rows)
  pub inside : copied ≤ i
  pub short : n ≤ 2 * i
  pub first : n ≡ 0 → found ≡ []
  pub next : state_on p ≡ state_after p m

-- a byte that the mode writes as itself
pub plain-character : (m : Mode) (x : ℕ) → is_escaped m x ≡ false → (is_doubled Gs1 x m ≡ false) × (character_for Gs1 x m ≡ x)
plain-character m x h = grind arith

-- a byte that alphanumeric mode writes as itself, as the other modes do
pub unescaped : (m : Mode) (x : ℕ) → is_escaped Alphanumeric x ≡ false → is_escaped m x ≡ false
unescaped m x h = grind arith

-- of the other bytes `%` is doubled, and `%` is written for the separator
pub percent-character : (m : Mode) (x : ℕ) → is_escaped m x ≡ true → x ≡ percent → (is_doubled Gs1 x m ≡ true) × (character_for Gs1 x m ≡ percent)
percent-character m x h e = grind arith

pub separator-character : (m : Mode) (x : ℕ) → is_escaped m x ≡ true → (x ≡ percent → ⊥) → (is_doubled Gs1 x m ≡ false) × (character_for Gs1 x m ≡ percent)
separator-character m x h e = grind (arith, eqb-true)

-- one more byte that is written as itself
pub plain-more : (xs chars : List ℕ) (copied i : ℕ) → copied ≤ i → i < length xs
    → chars ++ take ((i + 1) - copied) (drop copied xs) ≡ (chars ++ take (i - copied) (drop copied xs)) ++ get_or xs i 0 ∷ []
plain-more xs chars copied i h l =
    search (arith, length-drop, get_or-drop, append_assoc, take_more (drop copied xs) (i - copied) 0 (omega (arith, length-drop copied xs)))

-- what is written after byte `i` and before the next is nothing
pub escaped-more : (xs chars : List ℕ) (i : ℕ) → chars ++ take ((i + 1) - (i + 1)) (drop (i + 1) xs) ≡ chars
escaped-more xs chars i = search (arith, append-nil)

-- the modes of one more byte, and so its segment, which has one or two characters more
runs-more : (ds : List Mode) (found : List Segment) (m : Mode) (n : ℕ) (d : Bool) → 0 < n → found ++ one_segment m n ≡ append_mode (runs_of ds) m
    → found ++ one_segment m (cond d (n + 1) n) ≡ runs_of (ds ++ cond d (m ∷ m ∷ []) (m ∷ []))
unfolding append_mode
runs-more ds found m n true h e =
    rw (← append_assoc ds (m ∷ []) (m ∷ []), runs_of-push (ds ++ m ∷ []) m, runs_of-push ds m, ← e) (search (arith, append_mode-last, nat_tests))
runs-more ds found m n false h e = e ∙ sym (runs_of-push ds m)

-- one more byte, of the mode `w`
pub written_more : {xs : List ℕ} {all : List Mode} {i : ℕ} {found : List Segment} {m : Mode} {n : ℕ} {p : RunState} {rows chars : List ℕ} {copied : ℕ}
    (later : List ℕ) (row : ℕ) (w : Mode) (new : List Segment) (k j : ℕ) (q : RunState) (cs : List ℕ) (b : ℕ)
    → IsWritten xs all i found m n p rows chars copied → i < length xs → rows ≡ later ++ row ∷ [] → w ≡ mode_at row p
    → new ++ one_segment w k ≡ append_mode (found ++ one_segment m n) w → (0 < k) × (k ≤ n + 1)
    → j ≡ cond (is_doubled Gs1 (get_or xs i 0) w) (k + 1) k → q ≡ state_in Gs1 p (get_or xs i 0) w
    → cs ++ take ((i + 1) - b) (drop b xs) ≡ (chars ++ take (i - copied) (drop copied xs)) ++ cond (is_doubled Gs1 (get_or xs i 0) w) (character_for Gs1 (get_or xs i 0) w ∷ character_for Gs1 (get_or xs i 0) w ∷ []) (character_for Gs1 (get_or xs i 0) w ∷ [])
    → b ≤ i + 1 → IsWritten xs all (i + 1) new w j q later cs b
unfolding follow_in
written_more {xs} {all} {i} {found} {m} {n} {p} {rows} {chars} {copied} later row w new k j q cs b h inside last is run bounds count state characters low =
    let some = bounds.0 in
    let few = bounds.1 in
    let x = get_or xs i 0 in
    let more : take (i + 1) xs ≡ take i xs ++ x ∷ [] = take_more xs i 0 inside in
    let len : length (take i xs) ≡ length h.modes = length-take-le i xs (omega arith) ∙ sym h.many in
    let ds = doubled_gs1 (take i xs) h.modes in
    let both = written-append Gs1 (take i xs) (x ∷ []) h.modes (w ∷ []) len in
    let modes = both.0 ∙ ap (λ (r : List Mode). ds ++ r) (written-one Gs1 x w).0 in
    let own = both.1 ∙ ap (λ (r : List ℕ). characters_gs1 (take i xs) h.modes ++ r) (written-one Gs1 x w).1 in
    search (arith, length-append, runs-more, cond_both, reverse-append, append_assoc, on-after, drop_more)
