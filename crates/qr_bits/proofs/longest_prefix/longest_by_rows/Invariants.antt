use Rattle.std.proofs.Common.{◌≡◌, ℕ, ◌*◌, ◌≤◌, List, reverse, take}
use Rattle.qr_bits.specs.{declared.{interpretation.Interpretation.Interpretation, run_state.RunState.RunState}, Segmentation.HasFit, Modes.is_kanji_pair}
use Rattle.qr_bits.{specs.Steps.{RunState.{is_gs1, swapped}, BestModes.{bits_at, follow_in}}, proofs.lemmas.run_state.BestLemmas.BestBelow}
use Rattle.qr_bits.proofs.longest_prefix.longest_by_rows.Given as goal

-- the longest so far, and the best rests of the prefix that was looked at, read backwards
abbrev pub invariant-loop-i : goal.invariant-loop-i
invariant-loop-i l = record {
  inside : l.longest ≤ l.i;
  fits : (n : Interpretation) → l.case.gs1 ≡ is_gs1 n → HasFit n l.fn.version l.case.rule (take l.longest l.input) l.room;
  longest : (n : Interpretation) → l.case.gs1 ≡ is_gs1 n → (k : ℕ) → k ≤ l.i → HasFit n l.fn.version l.case.rule (take k l.input) l.room → k ≤ l.longest;
  small : (p : RunState) → bits_at l.rest p ≤ 33 * l.i;
  best : (rows : List ℕ) × ((n : Interpretation) → l.case.gs1 ≡ is_gs1 n →
      BestBelow n l.fn.version l.case.rule (swapped is_kanji_pair) (reverse (take l.i l.input)) (λ p. follow_in n p (reverse (take l.i l.input)) rows) (bits_at l.rest));
}
