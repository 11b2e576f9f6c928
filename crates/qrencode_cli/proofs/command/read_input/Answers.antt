use Rattle.std.proofs.{Common.{rules, inl, inr, length, arith}, lemmas.{Grind.common_steps, Result.err_from_is_err_and}}
use Rattle.qrencode_cli.proofs.lemmas.command.ReadingLemmas.{has-read-end, has-read-full, reading-more, stops-memory, stops-read}
use Rattle.qrencode_cli.proofs.command.read_input.Goals as goal
use Rattle.qrencode_cli.proofs.command.read_input.Goals.{else-reads-test, then-reads-test+in-Ok-eq0}

pub reads-init : goal.reads-init
reads-init g c = search rules

pub reads-preserved-in-Continue-1 : goal.reads-preserved-in-Continue-1
reads-preserved-in-Continue-1 g c =
    let read = c.in-Ok.ensures in
    reading-more _ _ _ _ _ c.reads.chunk _ _ _ _ c.reads.invariant c.in-Ok.given-test.1 read.bound read.bytes.0 read.counted
    (search rules) (rw (c.len-in-reads.ensures, c.reads.bytes.ok.0) at c.min-room.ensures) c.read.auto.buf
    _ _ c.in_ok-extend_from_slice-in-Ok.ensures.items

pub reads-preserved : goal.reads-preserved
reads-preserved g c = search arith

pub returns-in_err-extend_from_slice-in-Ok : goal.returns-in_err-extend_from_slice-in-Ok
returns-in_err-extend_from_slice-in-Ok g c =
    let p = err_from_is_err_and c.from_residual.result c.from_residual.ensures.1 in
    let read = c.in-Ok.ensures in
    rw (p.1, p.2) (stops-memory _ _ _ _ _ c.reads.chunk _ _ _ _ c.reads.invariant c.in-Ok.given-test.1 read.bound read.bytes.0
    read.counted (rw (c.len.ensures, c.reads.bytes.ok.0) at c.reads-test.true) (rw (c.len-in-reads.ensures, c.reads.bytes.ok.0) at c.min-room.ensures) c.read.auto.buf)

pub returns-then-interrupted-eq-INTERRUPTIONS_MAX : goal.returns-then-interrupted-eq-INTERRUPTIONS_MAX
returns-then-interrupted-eq-INTERRUPTIONS_MAX g c =
    stops-read _ _ _ _ (length c.read.new.buf) _ _ c.reads.invariant (search rules)
    (inr c.if-interrupted-eq-INTERRUPTIONS_MAX.true) c.in-Err-Interrupted.ensures.counted

pub returns-in-Err-Failed : goal.returns-in-Err-Failed
returns-in-Err-Failed g c =
    stops-read _ _ _ _ (length c.read.new.buf) _ _ c.reads.invariant (search rules)
    (inl c.in-Err-Failed.field-0-is) c.in-Err-Failed.ensures.counted

pub returns : goal.returns
returns g c = elim c.reads-test.branch [
  | else-reads-test w ↦ rw w.input-is (has-read-full _ _ _ _ c.reads.invariant (rw (c.len.ensures, c.reads.bytes.ok.0) at w.reads-test.false))
  | then-reads-test+in-Ok-eq0 w ↦
      let read = w.in-Ok-eq0 in
      rw w.input-is (has-read-end _ _ _ _ _ _ _
      c.reads.invariant read.field-0-test (grind (arith, common_steps)) (rw (c.len.ensures, c.reads.bytes.ok.0) at w.reads-test.true) read.ensures.bytes read.ensures.counted)
]
