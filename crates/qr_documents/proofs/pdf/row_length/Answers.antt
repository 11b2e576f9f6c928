use Rattle.qr_documents.proofs.lemmas.{boxes.{row-lines}, pdf.{few-runs, run-length}}
use Rattle.std.proofs.{Common.{rules, ap, ◌≡◌, ◌-◌, ◌<◌, ◌≤◌, ◌+◌, ◌++◌, [], ◌∷◌, append_assoc, arith, length, length-append}, lemmas.List.Elements.{All-head, All-rest}}
use Rattle.std.specs.Prelude.{decimal}
use Rattle.qr_documents.proofs.pdf.row_length.Goals as goal

pub loop-run-init : goal.loop-run-init
loop-run-init c =
    let few = few-runs c.args.raster.now.matrix.now c.args.row _ c.dark_runs-run-items.ensures in
    rw c.into_iter-run-iterator.ensures.into_iter_gives (search (rules, row-lines, few))

pub overflow_sub-run : goal.overflow_sub-run
overflow_sub-run c =
    let within = All-head (λ run. (run.start < run.end) × (run.end ≤ c.args.raster.now.matrix.now.side)) c.in-Some.run' c.next.new.self
    (rw c.in-Some.ensures.steps at c.loop-run.invariant.within) in
    omega (arith, within.0)

pub loop-run-preserved : goal.loop-run-preserved
loop-run-preserved c =
    let run = c.in-Some.run' in
    let margin = c.args.raster.now.margin in
    let column : c.from-left.result + c.from.result ≡ margin + run.start = omega arith in
    let x = ap (λ n. length (decimal n)) column in
    let wide : c.from-modules.result ≡ run.end - run.start = c.from-modules.ensures in
    let modules = ap (λ n. length (decimal n)) wide in
    let one : length (c.loop-run.yielded ++ (run ∷ [])) ≡ length c.loop-run.yielded + 1 = length-append c.loop-run.yielded (run ∷ []) in
    record {
      within = All-rest (λ run. (run.start < run.end) × (run.end ≤ c.args.raster.now.matrix.now.side)) run c.next.new.self _ c.in-Some.ensures.steps c.loop-run.invariant.within;
      few = rw (append_assoc c.loop-run.yielded (run ∷ []) c.next.new.self) (rw c.in-Some.ensures.steps at c.loop-run.invariant.few);
      lines = search (rules, append_assoc);
      len = run-length c.args.up margin _ c.loop-run.len run c.loop-run.yielded
          (cc (c.digits.ensures.value, c.digits-in-loop-run.ensures.value, c.digits-shared.ensures.value, x, modules)) c.loop-run.invariant.len;
      low = omega (arith, one, c.loop-run.invariant.low, c.digits.ensures.most, c.digits-in-loop-run.ensures.most, c.digits-shared.ensures.most);
    }
