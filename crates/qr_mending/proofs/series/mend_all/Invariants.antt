use Rattle.{std.proofs.Common.take, qr_symbol.specs.Joining.AreReadBy, qr_mending.specs.Series.IsMendedContent}
use Rattle.qr_mending.proofs.series.mend_all.Given as goal

abbrev pub invariant-loop-matrix : goal.invariant-loop-matrix
invariant-loop-matrix l = AreReadBy IsMendedContent (take l.matrix-index l.damaged) l.contents.items
