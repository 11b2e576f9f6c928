-- An assignment to bytes is valid exactly if its modes are allowed, one after the other.
use Rattle.qr_bits.proofs.lemmas.{best_modes.TableLemmas.bytes-rest, run_state.{AssignmentLemmas.{can-take, is-assignment}, CostLemmas.bits-runs_of}}
use Rattle.qr_bits.proofs.lemmas.{run_state.DoubledLemmas.{allowed-written, cost-written, list_all-doubled}, segmentation.CoverLemmas.{covers-by, by-covers}}
use Rattle.qr_bits.specs.{Interpretation.{characters_in, doubled}, Modes.{is_kanji_pair, may_use}, Segmentation.{bits, runs_of, IsAssignment, IsBestAssignment}}
use Rattle.qr_bits.specs.Steps.{BestModes.{follow_in, IsBestTable}, RunState.{allowed_in, cost_of_all, may_end}}
use Rattle.qr_bits.specs.declared.{interpretation.Interpretation.Interpretation, modes.{Mode.{Mode, TheVariants.Byte}, Rule.Rule}}
use Rattle.{qr_bits.specs.declared.run_state.RunState.TheVariants.Start, std.proofs.Common.{◌≡◌, ℕ, true, List, length, replicate, refl, sym, ◌∙◌, arith}}

-- the bits of an assignment are those that its bytes add
pub bits-assigned : (i : Interpretation) (v : ℕ) (xs : List ℕ) (ms : List Mode) → bits v (runs_of (doubled i xs ms)) ≡ cost_of_all i v Start xs ms
bits-assigned i v xs ms = search (arith, bits-runs_of, cost-written)

-- the modes of a valid assignment are allowed
pub assigned-allowed : (i : Interpretation) (r : Rule) (xs : List ℕ) (ms : List Mode) → IsAssignment i r xs ms → allowed_in i r is_kanji_pair Start xs ms ≡ true
unfolding may_end
assigned-allowed i r xs ms h =
    sym (allowed-written i r is_kanji_pair Start xs ms)
    ∙ can-take is_kanji_pair r (characters_in i xs ms) (doubled i xs ms) (list_all-doubled i (may_use r) xs ms ∙ h.0, covers-by _ _ h.1) Start refl

-- modes that are allowed are a valid assignment
pub allowed-assigned : (i : Interpretation) (r : Rule) (xs : List ℕ) (ms : List Mode) → allowed_in i r is_kanji_pair Start xs ms ≡ true → IsAssignment i r xs ms
unfolding may_end
allowed-assigned i r xs ms h =
    search (arith, list_all-doubled, by-covers, is-assignment is_kanji_pair r (characters_in i xs ms) (doubled i xs ms) Start refl (allowed-written i r is_kanji_pair Start xs ms ∙ h))

-- the modes to which a table leads are the best assignment
pub assignment-from-table : (i : Interpretation) (v : ℕ) (r : Rule) (xs : List ℕ) (rows : List ℕ) → IsBestTable i v r is_kanji_pair xs rows → IsBestAssignment i v r xs (follow_in i Start xs rows)
unfolding may_end
assignment-from-table i v r xs rows table =
    search (arith, allowed-assigned, bits-assigned, assigned-allowed, table Start (replicate (length xs) Byte) (bytes-rest i r is_kanji_pair Start xs refl))
