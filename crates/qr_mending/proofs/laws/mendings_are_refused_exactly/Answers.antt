use Rattle.{qr_mending.{proofs.lemmas.mending.{mended-not-refused, unmended-one}, specs.Mending.{IsMendedReading, IsUnmended}}, qr_symbol.proofs.Facts.exactly}
use Rattle.qr_mending.proofs.laws.mendings_are_refused_exactly.Goals as goal

pub returns : goal.returns
returns c =
    let g = c.args.damaged.now in
    let u = c.args.unknown.now in
    exactly (λ m. IsMendedReading u g m.version m.level m.mask m.parsed m.changed.items) (IsUnmended u g) c.mend_symbol_with_unknown.result
    c.mend_symbol_with_unknown.ensures.mended (λ m e. mended-not-refused u g m.version m.level m.mask m.parsed m.changed.items e) (unmended-one u g)
