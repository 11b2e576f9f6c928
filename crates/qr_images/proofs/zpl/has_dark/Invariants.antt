use Rattle.std.proofs.Common.{◌≡◌}
use Rattle.qr_images.specs.Packing.{has_dark_below}
use Rattle.qr_images.proofs.zpl.has_dark.Given as goal

abbrev pub invariant-loop-column : goal.invariant-loop-column
invariant-loop-column l = l.dark ≡ has_dark_below l.column l.settings l.square l.row
