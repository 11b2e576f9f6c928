use Rattle.qr_devices.proofs.Facts.{formed, stops-between, writes-none, writes-on}
use Rattle.qr_documents.proofs.lemmas.boxes.{line-is, line_of, row-lines}
use Rattle.std.proofs.{Common.{rules, ◌<◌, ◌≤◌, ◌+◌, [], ◌∷◌, append_assoc, append-nil, arith}, lemmas.Grind.flat_map-append}
use Rattle.std.{proofs.lemmas.{List.Elements.{All-head, All-rest}, Result.err_from_is_err_and}, specs.List.flat_map}
use Rattle.qr_documents.proofs.boxes.put_row_lines.Goals as goal

pub loop-run-init : goal.loop-run-init
loop-run-init g c = rw c.into_iter-run-iterator.ensures.into_iter_gives (search (rules, row-lines, writes-none))

pub returns-in_err-reserve : goal.returns-in_err-reserve
returns-in_err-reserve g c =
    let line = line_of c.args.ending.now c.args.row.up c.args.raster.now.margin in
    rw ((err_from_is_err_and c.from_residual.result c.from_residual.ensures.1).1, c.loop-run.invariant.lines, flat_map-append line c.loop-run.yielded c.loop-run.run-iterator)
    (stops-between _ _ _ _ _ c.args.pen.now.piece c.loop-run.pen.piece (flat_map line c.loop-run.yielded) (flat_map line c.loop-run.run-iterator)
    c.loop-run.invariant.writes c.in_err-reserve.ensures.writes)

pub overflow_sub-run : goal.overflow_sub-run
overflow_sub-run g c =
    let within = All-head (λ run. (run.start < run.end) × (run.end ≤ c.args.raster.now.matrix.now.side)) c.in-Some.run' c.next.new.self
    (rw c.in-Some.ensures.steps at c.loop-run.invariant.within) in
    omega (arith, within.0)

pub loop-run-preserved : goal.loop-run-preserved
loop-run-preserved g c =
    let line = line_of c.args.ending.now c.args.row.up c.args.raster.now.margin in
    let run = c.in-Some.run' in
    let here = line-is c.args.ending.now c.args.row.up c.args.raster.now.margin (c.from-left.result + c.from.result) c.from-in-loop-run.result run (omega arith) (omega arith) in
    record {
      within = All-rest (λ run. (run.start < run.end) × (run.end ≤ c.args.raster.now.matrix.now.side)) run c.next.new.self _ c.in-Some.ensures.steps c.loop-run.invariant.within;
      lines = search (rules, append_assoc);
      writes = rw (flat_map-append line c.loop-run.yielded (run ∷ []), append-nil (line run), ← here)
          (writes-on _ _ _ _ _ _ c.args.pen.now.piece c.loop-run.pen.piece _ (flat_map line c.loop-run.yielded) _ c.loop-run.invariant.writes
          (formed _ _ _ _ c.loop-run.pen.piece _ _ _ c.in_ok-reserve.ensures.writes (search rules)));
    }

pub returns : goal.returns
returns g c =
    rw (c.loop-run.invariant.lines, c.in-None.ensures.steps.0, append-nil c.loop-run.yielded) c.loop-run.invariant.writes
