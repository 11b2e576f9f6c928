use Rattle.qr_mending.proofs.mending.mend_symbol.Goals as goal

pub returns-clause-mended : goal.returns-clause-mended
returns-clause-mended c = rw (c.in_ok-unknown.ensures, c.side.ensures.value) at c.mend_symbol_with_unknown.ensures.mended
