use Rattle.qr_symbol.proofs.encoding.symbol_at.Goals as goal

pub returns : goal.returns
returns c = rw (c.in_ok-canvas.ensures.version, c.in_ok-canvas.ensures.level) at c.symbol_on.ensures.made
