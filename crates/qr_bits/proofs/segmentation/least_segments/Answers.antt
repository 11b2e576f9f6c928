use Rattle.std.proofs.{Common.{◌≡◌, [], length, reverse, refl, sym, ◌∙◌, arith}, lemmas.List.{append-nil, length-reverse, nil_from_length}}
use Rattle.qr_bits.specs.{declared.run_state.RunState.TheVariants.Start, Segmentation.runs_of, Steps.{RunState.{state_after, state_on}, BestModes.follow}}
use Rattle.qr_bits.proofs.lemmas.{segmentation.BackLemmas.{found-more}, best_modes.TableLemmas.follow-default, segmentation.AssignedLemmas.assignment-from-table}
use Rattle.qr_bits.specs.declared.interpretation.Interpretation.TheVariants.{Default}
use Rattle.qr_bits.proofs.segmentation.least_segments.Goals as goal

pub loop-modes-init : goal.loop-modes-init
unfolding runs_of state_on state_after
loop-modes-init c = search arith

pub next_run-requires-clause-short : goal.next_run-requires-clause-short
next_run-requires-clause-short c = search arith

pub loop-modes-preserved : goal.loop-modes-preserved
loop-modes-preserved c =
    let run = c.in_ok-run.ensures in
    rw run.1 (found-more _ _ _ c.in_ok-run.run'.len c.mode_at.result _ _ c.loop-modes.invariant c.in-Some.ensures.items c.in-Some.ensures.len c.mode_at.ensures run.0 run.2 run.3 run.4)

pub returns-clause-ok : goal.returns-clause-ok
unfolding follow
returns-clause-ok c =
    let i = c.loop-modes.invariant in
    let none : c.loop-modes.table.items ≡ [] = search (arith, nil_from_length) in
    let xs = c.args.input.now in
    let rows = reverse c.in_ok-table.table.items in
    let many : length rows ≡ length xs = search (arith, length-reverse) in
    let best = assignment-from-table Default c.args.version c.args.rule xs rows c.in_ok-table.ensures.1 in
    (i.modes, rw ((sym (append-nil i.modes) ∙ rw none at i.led), ← follow-default Start xs rows many) best, c.in_ok-push_segment.ensures ∙ i.runs, refl)
