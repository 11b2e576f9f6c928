use Rattle.std.proofs.Common.{◌++◌, ◌∷◌, []}
use Rattle.qr_devices.specs.Writing.{Writes}
use Rattle.qr_images.specs.{Image.joined_below, Packing.first_line}
use Rattle.qr_images.proofs.zpl.put_packed_row.Given as goal

abbrev pub invariant-loop-copy : goal.invariant-loop-copy
invariant-loop-copy g l = Writes (g.W.Sink.device l.fn.out) (g.W.Sink.device l.out) l.fn.pen.interrupted l.pen.interrupted
    (l.fn.pen.piece ++ (first_line l.settings l.square l.row ++ joined_below l.copy (λ _. 58 ∷ []))) l.pen.piece
