use Rattle.std.proofs.{lemmas.{List.{drop_more, reverse-append, append-nil, drop_all, take_all}, Bool.ne_eqb}, Math.Nat.le_refl}
use Rattle.std.proofs.Common.{◌≡◌, ◌+◌, ◌-◌, ◌<◌, ◌≤◌, cond, vec_len, [], ◌∷◌, ◌++◌, length, get_or, take, drop, reverse, refl, sym, ◌∙◌, arith, rules}
use Rattle.qr_bits.specs.declared.{interpretation.Interpretation.TheVariants.Gs1, run_state.RunState.TheVariants.Start}
use Rattle.qr_bits.specs.{Interpretation.{character_for, characters_gs1, doubled_gs1, is_doubled, percent}, Segmentation.runs_of, Steps.BestModes.follow_in, Steps.Segmentation.{is_escaped}, Steps.RunState.{state_after, state_in, state_on}}
use Rattle.qr_bits.proofs.lemmas.segmentation.{AssignedLemmas.assignment-from-table, DoubledRunLemmas.{IsWritten, escaped-more, percent-character, plain-character, plain-more, separator-character, unescaped, written_more}}
use Rattle.qr_bits.proofs.lemmas.best_modes.{ChoiceLemmas.on-after}
use Rattle.qr_bits.proofs.segmentation.least_doubled_segments.Goals as goal
use Rattle.qr_bits.proofs.segmentation.least_doubled_segments.Goals.{then-is_escaped+in_ok-put_escape+then-input-i-eq37, then-is_escaped+in_ok-put_escape+else-input-i-eq37, else-is_escaped}

pub loop-modes-init : goal.loop-modes-init
unfolding runs_of state_on state_after doubled_gs1 characters_gs1
loop-modes-init c =
    let input = c.args.input.now in
    let rows = reverse c.in_ok-table.table.items in
    record {
      all = follow_in Gs1 Start input rows;
      best = assignment-from-table Gs1 c.args.version c.args.rule input rows c.in_ok-table.ensures.1;
      rows = omega (arith, c.in_ok-table.ensures.0);
      written = search arith;
    }

pub loop-row-init : goal.loop-row-init
loop-row-init c =
    let l = c.loop-modes in
    let input = c.args.input.now in
    let i = length input - c.len.result - 1 in
    let at : (length input - vec_len l.table ≡ i) × (i < length input) × (length input - vec_len c.pop.new.self ≡ i + 1) × (vec_len c.pop.new.self ≤ length input) =
    search (rules, c.in-Some.ensures.len) in
    let inv : IsWritten input l.invariant.all i l.found.items l.run.mode l.run.len l.run.state l.table.items l.characters.items l.copied = rw at.0 at l.invariant.written in
    let x = get_or input i 0 in
    let m = c.mode_at.result in
    let f = c.in_ok-run.run' in
    let e = c.if-is_escaped in
    let t = character_for Gs1 x m in
    let run = c.in_ok-run.ensures in
    let escaped : c.is_escaped.result ≡ is_escaped m x = rw run.1 at c.is_escaped.ensures in
    let put : (e.run.mode ≡ m) × (e.run.len ≡ cond (is_doubled Gs1 x m) (f.len + 1) f.len) × (e.run.state ≡ state_in Gs1 l.run.state x m) × (e.copied ≤ i + 1)
    × (e.characters.items ++ take ((i + 1) - e.copied) (drop e.copied input) ≡ (l.characters.items ++ take (i - l.copied) (drop l.copied input)) ++ cond (is_doubled Gs1 x m) (t ∷ t ∷ []) (t ∷ [])) =
    elim e.branch [
      | then-is_escaped+in_ok-put_escape+then-input-i-eq37 w ↦
          let own = percent-character m x (sym escaped ∙ w.if-is_escaped.true) w.if-input-i-eq37.true in (
            rw w.run-is run.1,
            rw (own.0, w.run-is) refl,
            rw (own.0, w.run-is) (w.state_on-run.ensures ∙ rw run.2 (on-after l.run.state m)),
            omega arith,
            rw (w.characters-is, w.copied-is, own.0, own.1) (escaped-more input _ i ∙ w.in_ok-put_escape.ensures ∙ rw w.if-input-i-eq37.true refl),
          )
      | then-is_escaped+in_ok-put_escape+else-input-i-eq37 w ↦
          let own = separator-character m x (sym escaped ∙ w.if-is_escaped.true) w.if-input-i-eq37.false in (
            rw w.run-is run.1,
            rw (own.0, w.run-is) refl,
            rw (own.0, w.run-is) run.2,
            omega arith,
            rw (w.characters-is, w.copied-is, own.0, own.1) (escaped-more input _ i ∙ w.in_ok-put_escape.ensures ∙ rw (ne_eqb x percent w.if-input-i-eq37.false) refl),
          )
      | else-is_escaped w ↦
          let own = plain-character m x (sym escaped ∙ w.if-is_escaped.false) in (
            rw w.run-is run.1,
            rw (own.0, w.run-is) refl,
            rw (own.0, w.run-is) run.2,
            omega arith,
            rw (w.characters-is, w.copied-is, own.0, own.1) (plain-more input l.characters.items l.copied i inv.inside at.1),
          )
    ] in
    record {
      all = l.invariant.all;
      best = l.invariant.best;
      rows = at.3;
      fewer = le_refl (vec_len c.pop.new.self);
      written = rw (at.2, put.0)
          (written_more c.pop.new.self.items c.in-Some.modes m c.next_run.new.found.items f.len e.run.len e.run.state e.characters.items e.copied inv at.1
          c.in-Some.ensures.items c.mode_at.ensures run.0 (run.3, run.4) put.1 put.2 put.4 put.3);
    }

pub next_run-requires-in-Some-pop_unflagged-clause-short : goal.next_run-requires-in-Some-pop_unflagged-clause-short
next_run-requires-in-Some-pop_unflagged-clause-short c =
    let row = c.pop_unflagged.ensures.row c.in-Some-pop_unflagged.row c.in-Some-pop_unflagged.is in
    search rules

pub loop-row-smaller : goal.loop-row-smaller
loop-row-smaller c =
    let row = c.pop_unflagged.ensures.row c.in-Some-pop_unflagged.row c.in-Some-pop_unflagged.is in
    omega arith

pub loop-row-preserved : goal.loop-row-preserved
loop-row-preserved c =
    let l = c.loop-row in
    let inv = l.invariant.written in
    let input = c.args.input.now in
    let chars = c.if-is_escaped.characters.items in
    let copied = c.if-is_escaped.copied in
    let new = c.pop_unflagged.new.table in
    let i = length input - vec_len l.table in
    let row = c.pop_unflagged.ensures.row c.in-Some-pop_unflagged.row c.in-Some-pop_unflagged.is in
    let rows = l.invariant.rows in
    let at : (i < length input) × (length input - vec_len new ≡ i + 1) × (vec_len new ≤ length input) × (vec_len new ≤ vec_len c.pop.new.self) =
    (omega arith, omega arith, omega arith, omega arith) in
    let m = c.mode_at-in-Some-pop_unflagged.result in
    let run = c.in_ok-run-2.ensures in
    let own = plain-character m (get_or input i 0) (search (arith, unescaped, reverse-append, drop_more)) in
    record {
      all = l.invariant.all;
      best = l.invariant.best;
      rows = at.2;
      fewer = at.3;
      written = rw (at.1, run.1)
          (written_more new.items c.in-Some-pop_unflagged.row m c.next_run-in-Some-pop_unflagged.new.found.items c.in_ok-run-2.run'.len c.in_ok-run-2.run'.len c.in_ok-run-2.run'.state chars copied inv at.0
          row.0 c.mode_at-in-Some-pop_unflagged.ensures run.0 (run.3, run.4) (rw own.0 refl) (rw own.0 run.2) (rw (own.0, own.1) (plain-more input chars copied i inv.inside at.0)) (omega arith));
    }

pub loop-modes-preserved : goal.loop-modes-preserved
loop-modes-preserved c =
    let inv = c.loop-row.invariant in
    rw (c.pop_unflagged.ensures.none c.in_default-pop_unflagged.is) (search rules)

pub loop-modes-smaller : goal.loop-modes-smaller
loop-modes-smaller c = rw (c.pop_unflagged.ensures.none c.in_default-pop_unflagged.is) (omega (arith, c.loop-row.invariant.fewer, c.in-Some.ensures.len))

pub returns-clause-ok : goal.returns-clause-ok
unfolding follow_in
returns-clause-ok c =
    let l = c.loop-modes in
    let inv = l.invariant.written in
    let input = c.args.input.now in
    let i = length input - vec_len l.table in
    let end : i ≡ length input = omega (arith, c.in_default.ensures.cases.0) in
    let whole : take i input ≡ input = take_all i input (omega arith) in
    let all : inv.modes ≡ l.invariant.all = sym (append-nil inv.modes) ∙ (rw (end, (drop_all (length input) input (le_refl (length input)))) at inv.led) in (
      inv.modes,
      rw all l.invariant.best,
      c.in_ok-push_segment.ensures ∙ (rw whole at inv.runs),
      c.in_ok-extend_from_slice.ensures.items ∙ (rw (whole, end) at inv.characters),
    )
