use Rattle.qr_bits.{proofs.lemmas.best_modes.TableLemmas.{some-interpretation, best-none, best-more, small-more, small-row, zeros}, specs.Modes.is_kanji_pair}
use Rattle.qr_bits.specs.{Steps.{BestModes.IsRow, RunState.{begins_with_pair, is_gs1}}, declared.interpretation.Interpretation.Interpretation}
use Rattle.std.proofs.{Common.{◌≡◌, ℕ, ◌+◌, ◌-◌, ◌<◌, ◌≤◌, suc, [], ◌∷◌, length, get_or, take, drop, refl, arith, rules}, Math.Nat.le_refl}
use Rattle.std.proofs.{Math.Seq.{drop-length, drop-cons}, lemmas.List.{reverse-append, take_all, length-drop}}
use Rattle.qr_bits.proofs.best_modes.best_rows.Goals as goal

-- n rows are in the table, and k bytes have none yet
rows : (n k l : ℕ) → n + k ≡ l
    → (0 < k → (suc (k - 1) ≡ k) × (k - 1 < l) × (n + 1 + (k - 1) ≡ l)) × (k ≤ 0 → (k ≡ 0) × (n ≡ l)) × (l ≤ 113425 → n ≤ 113425)
rows n k l e = search rules

none : (n l : ℕ) → n ≡ 0 → n + l ≡ l
none n l e = omega arith

pub loop-i-init : goal.loop-i-init
loop-i-init c = record {
  len = none _ _ c.in_ok-table.ensures.len;
  small = search (rules, zeros);
  best = λ n g. rw (drop-length c.args.input.now, c.in_ok-table.ensures.items) (best-none n c.args.version c.args.case.rule is_kanji_pair _ zeros);
  flags = search (rules, drop-length);
}

pub row_of-modes-requires : goal.row_of-modes-requires
row_of-modes-requires c = small-row c.loop-i.rest _ (search (rules, rows)) c.loop-i.invariant.small

pub loop-i-preserved : goal.loop-i-preserved
loop-i-preserved c =
    let i = c.loop-i.i - 1 in
    let xs = c.args.input.now in
    let at = (rows _ _ _ c.loop-i.invariant.len).0 c.loop-i-test.true in
    let d : drop i xs ≡ get_or xs i 0 ∷ drop c.loop-i.i xs = rw (drop-cons xs i 0 at.1, at.0) refl in
    let w : take (length xs - i) (drop i xs) ≡ drop i xs = take_all _ _ (rw (length-drop i xs) (le_refl (length xs - i))) in
    let chosen : (n : Interpretation) → c.args.case.gs1 ≡ is_gs1 n → IsRow n c.args.version c.args.case.rule (get_or xs i 0) (begins_with_pair c.args.case.rule is_kanji_pair (get_or xs i 0 ∷ drop c.loop-i.i xs)) c.loop-i.rest c.row_of-modes.result.0 c.row_of-modes.result.1 =
    λ n g. rw (c.of-first_choices.ensures, c.pair_at-pair.ensures, w, d) at (c.row_of-modes.ensures.row n g) in
    let some = some-interpretation c.args.case.gs1 in
    record {
      len = rw c.in_ok-push.ensures.len at.2;
      small = λ p. rw c.in_ok-push.ensures.len (small-more some.0 c.args.version c.args.case.rule _ _ _ c.loop-i.rest _ _ c.loop-i.invariant.small (chosen some.0 some.1) p);
      best = λ n g. rw (d, c.in_ok-push.ensures.items, reverse-append c.loop-i.table.items (c.row_of-modes.result.0 ∷ [])) (best-more n c.args.version c.args.case.rule is_kanji_pair _ _ _ _ _ _ (c.loop-i.invariant.best n g) (chosen n g));
      flags = search (arith, reverse-append);
    }

pub returns : goal.returns
returns c = search (arith, (rows _ _ _ c.loop-i.invariant.len).1 c.loop-i-test.false)
