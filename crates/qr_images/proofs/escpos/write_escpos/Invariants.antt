use Rattle.std.proofs.Common.{◌*◌}
use Rattle.qr_devices.specs.Writing.{Writes}
use Rattle.qr_images.specs.{Image.joined_below, Printing.{band, band_count}}
use Rattle.qr_images.proofs.escpos.write_escpos.Given as goal

abbrev pub invariant-loop-k : goal.invariant-loop-k
invariant-loop-k g l = Writes (g.W.Sink.device l.fn.out) (g.W.Sink.device l.out) 0 l.pen.interrupted
    (joined_below l.k (λ k. band l.settings l.square (255 * k) (band_count l.settings l.square k))) l.pen.piece
