use Rattle.qr_symbol.{proofs.lemmas.reading.RefusalLemmas.stated-fault, specs.declared.fault.ReadFault.ReadFault}
use Rattle.std.proofs.{Common.{Err, ap, inl, inr, refl}, lemmas.Result.err_from_is_err_and}
use Rattle.qr_symbol.proofs.reading.read_symbol.Goals as goal

-- ---- no version, or no format information

pub returns-in_err-size-clause-side : goal.returns-in_err-size-clause-side
returns-in_err-size-clause-side c = λ no.
    let p = err_from_is_err_and c.from_residual.result c.from_residual.ensures.1 in
    rw (p.1, p.2) (ap (λ (f : ReadFault). Err f) (stated-fault c.args.m.now c.in_err-size.field-0.0 _ c.in_err-size.ensures.fault (inl refl) c.in_err-size.ensures.unread no))

pub returns-in_err-size-clause-format : goal.returns-in_err-size-clause-format
returns-in_err-size-clause-format c = λ no.
    let p = err_from_is_err_and c.from_residual.result c.from_residual.ensures.1 in
    rw (p.1, p.2) (ap (λ (f : ReadFault). Err f) (stated-fault c.args.m.now c.in_err-size.field-0.0 _ c.in_err-size.ensures.fault (inr refl) c.in_err-size.ensures.unread no))

-- ---- a version and format information were found

pub returns-clause-side : goal.returns-clause-side
returns-clause-side c = λ no. absurd (no c.in_ok-size.size.version c.in_ok-size.ensures.size)

pub returns-clause-format : goal.returns-clause-format
returns-clause-format c = λ no. absurd (no.2 c.in_ok-size.size.level c.in_ok-size.mask c.in_ok-size.ensures.format)
