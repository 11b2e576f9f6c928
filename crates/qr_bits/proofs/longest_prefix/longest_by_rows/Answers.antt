use Rattle.qr_bits.proofs.lemmas.best_modes.TableLemmas.{some-interpretation, best-none, small-more, small-row, zeros}
use Rattle.qr_bits.proofs.lemmas.longest_prefix.{empty-fits, none-longer, prefix-more, prefix-fits, prefix-least}
use Rattle.qr_bits.{proofs.longest_prefix.longest_by_rows.Goals.{then-from-room, else-from-room+else-from-room-2}, specs.Modes.is_kanji_pair}
use Rattle.qr_bits.specs.{Steps.{BestModes.{in_state, IsRow}, RunState.{is_gs1, swapped}}, declared.interpretation.Interpretation.Interpretation}
use Rattle.std.proofs.{Common.{rules, ◌≡◌, ℕ, ◌+◌, ◌≤◌, ◌<◌, [], ◌∷◌, take, get_or, arith, ⊎_elim}, Math.Nat.le_refl, lemmas.Bool.cases_lt}
use Rattle.qr_bits.proofs.longest_prefix.longest_by_rows.Goals as goal

below : (i l m : ℕ) → i < l → l ≤ m → i ≤ m
below i l m h e = omega arith

more : (n i : ℕ) → n ≤ i → n ≤ i + 1
more n i h = omega arith

last : (i k : ℕ) → i < k → k ≤ i + 1 → k ≡ i + 1
last i k l h = omega arith

pub loop-i-init : goal.loop-i-init
loop-i-init c = record {
  inside = le_refl 0;
  fits = λ n g. empty-fits n c.args.version c.args.case.rule _;
  longest = λ n g k h fit. h;
  small = search (rules, zeros);
  best = ([], λ n g. best-none n c.args.version c.args.case.rule (swapped is_kanji_pair) _ zeros);
}

pub row_of-requires : goal.row_of-requires
row_of-requires c = search (arith, small-row)

pub loop-i-preserved : goal.loop-i-preserved
unfolding in_state
loop-i-preserved c =
    let v = c.args.version in
    let r = c.args.case.rule in
    let xs = c.args.input.now in
    let i = c.loop-i.i in
    let inv = c.loop-i.invariant in
    let chosen : (n : Interpretation) → c.args.case.gs1 ≡ is_gs1 n → IsRow n v r (get_or xs i 0) _ c.loop-i.rest c.row_of.result.0 c.row_of.result.1 = λ n g. rw c.of-first_choices.ensures at (c.row_of.ensures.row n g) in
    let some = some-interpretation c.args.case.gs1 in
    let small = small-more some.0 v r _ _ _ _ _ _ inv.small (chosen some.0 some.1) in
    let b : (n : Interpretation) → (g : c.args.case.gs1 ≡ is_gs1 n) → _ = λ n g. prefix-more n v r xs i _ inv.best.0 _ _ _ c.loop-i-test.true c.ends_with_pair-pair.ensures (inv.best.1 n g) (chosen n g) in
    let room = c.args.room in
    elim c.if-from-room.branch [
      | then-from-room w ↦
          rw w.longest-is (record {
            inside = le_refl (i + 1);
            fits = λ n g. prefix-fits n v r (take (i + 1) xs) _ _ room (b n g) (omega (arith, c.from.ensures));
            longest = λ n g k h _. h;
            small = small;
            best = (c.row_of.result.0 ∷ inv.best.0, b);
          })
      | else-from-room+else-from-room-2 w ↦
          rw w.longest-is (record {
            inside = more _ _ inv.inside;
            fits = inv.fits;
            longest = λ n g k h fit. ⊎_elim (λ (l : i < k).
                absurd (omega (arith, prefix-least n v r (take (i + 1) xs) _ _ room (b n g) (rw (last i k l h) at fit), c.from.ensures)))
                (λ (l : k ≤ i). inv.longest n g k l fit) (cases_lt i k);
            small = small;
            best = (c.row_of.result.0 ∷ inv.best.0, b);
          })
    ]

pub returns-after-loop-i : goal.returns-after-loop-i
returns-after-loop-i c = λ n g.
    record {
      inside = omega (arith, c.loop-i.invariant.inside);
      fits = c.loop-i.invariant.fits n g;
      longest = λ k h fit. c.loop-i.invariant.longest n g k (omega arith) fit;
    }

pub returns-then-from-room-2 : goal.returns-then-from-room-2
returns-then-from-room-2 c = λ n g.
    let v = c.args.version in
    let r = c.args.case.rule in
    let xs = c.args.input.now in
    let i = c.loop-i.i in
    let inv = c.loop-i.invariant in
    let b = prefix-more n v r xs i _ inv.best.0 _ _ _ c.loop-i-test.true c.ends_with_pair-pair.ensures (inv.best.1 n g) (rw c.of-first_choices.ensures at (c.row_of.ensures.row n g)) in
    record {
      inside = omega (arith, c.loop-i-test.true);
      fits = inv.fits n g;
      longest = λ k h fit. ⊎_elim (λ (l : i < k).
          absurd (none-longer n v r xs (i + 1) k _ _ c.args.room b (λ p. omega (arith, c.fewest.ensures p, c.if-from-room-2.true, c.from-else-from-room.ensures)) (omega arith) fit))
          (λ (l : k ≤ i). inv.longest n g k l fit) (cases_lt i k);
    }
