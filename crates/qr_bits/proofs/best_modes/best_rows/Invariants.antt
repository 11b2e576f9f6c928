use Rattle.std.proofs.Common.{◌≡◌, ◌+◌, ◌*◌, ◌≤◌, true, length, reverse, drop, vec_len}
use Rattle.qr_bits.specs.{declared.run_state.RunState.RunState, Modes.is_kanji_pair, Steps.BestModes.{AreFlagged, bits_at, follow_in}, Steps.RunState.is_gs1, declared.interpretation.Interpretation.Interpretation}
use Rattle.qr_bits.proofs.lemmas.run_state.BestLemmas.{BestBelow}
use Rattle.qr_bits.proofs.best_modes.best_rows.Given as goal

-- what the table says of the bytes from i on
abbrev pub invariant-loop-i : goal.invariant-loop-i
invariant-loop-i l = record {
  len : vec_len l.table + l.i ≡ length l.input;
  small : (p : RunState) → bits_at l.rest p ≤ 33 * vec_len l.table;
  best : (n : Interpretation) → l.case.gs1 ≡ is_gs1 n → BestBelow n l.fn.version l.case.rule is_kanji_pair (drop l.i l.input) (λ p. follow_in n p (drop l.i l.input) (reverse l.table.items)) (bits_at l.rest);
  flags : l.case.gs1 ≡ true → AreFlagged (drop l.i l.input) (reverse l.table.items);
}
