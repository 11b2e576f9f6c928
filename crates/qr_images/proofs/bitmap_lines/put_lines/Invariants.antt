use Rattle.std.proofs.Common.{◌+◌, ◌/◌, ◌++◌}
use Rattle.qr_devices.specs.Writing.{Writes}
use Rattle.qr_images.specs.{BitmapLines.toned_line, Image.joined_below}
use Rattle.qr_images.proofs.bitmap_lines.put_lines.Given as goal

abbrev pub invariant-loop-y : goal.invariant-loop-y
invariant-loop-y g l = Writes (g.W.Sink.device l.fn.out) (g.W.Sink.device l.out) l.fn.pen.interrupted l.pen.interrupted
    (l.fn.pen.piece ++ joined_below l.y (λ y. toned_line l.lines.black l.settings l.square ((l.lines.first + y) / l.settings.scale))) l.pen.piece
