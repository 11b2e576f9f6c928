use Rattle.{qrencode_cli.proofs.lemmas.command.RunningLemmas.{runs, tells-fault}, std.proofs.Common.{Err, Ok, arith, refl}}
use Rattle.qrencode_cli.proofs.command.run.Goals as goal

pub returns-in-Ok : goal.returns-in-Ok
returns-in-Ok g c = (Ok tt, runs _ _ _ _ _ _ _ _ _ c.in-Ok.ensures refl refl (λ e. rw e (search arith)))

pub returns-in-Err : goal.returns-in-Err
returns-in-Err g c =
    let w = c.write_text.ensures in
    let told = tells-fault (g.E.Sink.device c.args.err.now) (g.E.Sink.device c.write_text.new.out) c.in-Err.fault _
    c.line.ensures c.write_text.result w.ok w.err w.fault w.taken w.most w.flushes in
    (Err c.in-Err.fault, runs _ _ _ _ _ _ _ _ _ c.in-Err.ensures told refl w.within)
