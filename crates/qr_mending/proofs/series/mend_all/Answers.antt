use Rattle.{qr_symbol.proofs.Facts.readings-next, qr_mending.specs.Series.IsMendedContent}
use Rattle.qr_mending.proofs.series.mend_all.Goals as goal

pub loop-matrix-preserved : goal.loop-matrix-preserved
loop-matrix-preserved c =
    let m = c.in_ok-mend_symbol.field-0 in
    rw c.in_ok-push.ensures.items (readings-next IsMendedContent c.args.damaged.now c.loop-matrix.matrix-index
    c.matrix-item.result
    c.loop-matrix.contents.items m.parsed c.loop-matrix-test.true c.matrix-item.is c.loop-matrix.invariant
    (m.version, m.level, m.mask, m.changed.items, c.in_ok-mend_symbol.ensures.mended))
