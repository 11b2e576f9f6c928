use Rattle.std.proofs.{Common.{sym}, lemmas.Result.err_from_is_err_and}
use Rattle.qr_devices.proofs.Facts.{stops-first}
use Rattle.qr_images.specs.Packing.{run_text, runs_from}
use Rattle.qr_images.proofs.lemmas.runs.{run-ends, run-more, went-same}
use Rattle.qr_images.proofs.runs.put_digit.Goals as goal

pub returns-then-goes_on : goal.returns-then-goes_on
returns-then-goes_on g c = went-same _ _ _ _ _ (λ rest. run-more c.args.run.now.digit c.args.run.now.count c.args.digit rest (sym c.if-goes_on.ensures.value))

pub returns-in_err-put_run : goal.returns-in_err-put_run
returns-in_err-put_run g c =
    let d = c.args.run.now.digit in
    let n = c.args.run.now.count in
    rw ((err_from_is_err_and c.from_residual.result c.from_residual.ensures.1).1)
    (λ rest. rw (run-ends d n c.args.digit rest (sym c.if-goes_on.ensures.value)) (stops-first _ _ _ c.args.pen.now.piece (run_text d n) (runs_from c.args.digit 1 rest) c.in_err-put_run.ensures))

pub returns : goal.returns
returns g c = record {
  text = run_text c.args.run.now.digit c.args.run.now.count;
  writes = c.in_ok-put_run.ensures;
  goes = λ rest. run-ends c.args.run.now.digit c.args.run.now.count c.args.digit rest (sym c.if-goes_on.ensures.value);
}
