use Rattle.std.proofs.Common.{◌++◌}
use Rattle.qr_devices.specs.Writing.{Writes}
use Rattle.qr_images.specs.{Image.joined_below, Packing.packed_row}
use Rattle.qr_images.proofs.zpl.put_packed_rows.Given as goal

abbrev pub invariant-loop-row : goal.invariant-loop-row
invariant-loop-row g l = Writes (g.W.Sink.device l.fn.out) (g.W.Sink.device l.out) l.fn.pen.interrupted l.pen.interrupted
    (l.fn.pen.piece ++ joined_below l.row (λ r. packed_row l.settings l.square r)) l.pen.piece
