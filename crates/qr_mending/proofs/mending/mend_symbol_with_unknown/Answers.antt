use Rattle.{qr_mending.proofs.lemmas.mending.mended-unparsed, std.proofs.{Common.{sym, ◌∙◌}, lemmas.Result.err_from_is_err_and}}
use Rattle.qr_mending.proofs.mending.mend_symbol_with_unknown.Goals as goal

pub returns-in_default-clause-mended : goal.returns-in_default-clause-mended
returns-in_default-clause-mended c = λ v s. c.in_default.ensures v s.least s.most (c.side.ensures.value ∙ s.side)

pub returns-in_err-parsed-clause-mended : goal.returns-in_err-parsed-clause-mended
returns-in_err-parsed-clause-mended c =
    let found = c.in-Some.ensures in
    let m = c.in-Some-2.mended in
    let mended = rw c.in-Some-2.is at c.in_ok-mended.ensures.mended in
    let p = err_from_is_err_and c.from_residual-in_err-parsed.result c.from_residual-in_err-parsed.ensures.1 in
    rw (p.1, p.2) (mended-unparsed c.args.unknown.now c.args.matrix.now c.in-Some.version m.level m.mask
    c.deref.result.now
    m.blocks.changed.items c.in_err-parsed.field-0.0
    (rw c.deref.ensures.value (record {
      sized = record { least = found.0; most = found.1; side = sym c.side.ensures.value ∙ found.2 };
      format = mended.0;
      damaged = mended.1.held;
    })) c.in_err-parsed.ensures)
