use Rattle.std.proofs.Common.{◌≡◌, ◌≤◌, ◌+◌, ◌-◌, ◌*◌, ◌++◌, ◌∷◌, []}
use Rattle.qr_devices.specs.Writing.{Writes}
use Rattle.qr_images.specs.{BitmapLines.toned, Image.{black_byte, joined_below}}
use Rattle.qr_images.proofs.bitmap_lines.put_line.Given as goal

abbrev pub invariant-loop-done : goal.invariant-loop-done
invariant-loop-done g l = record {
  writes : Writes (g.W.Sink.device l.fn.out) (g.W.Sink.device l.out) l.fn.pen.interrupted l.pen.interrupted
      (l.fn.pen.piece ++ joined_below l.done (λ k. toned l.line.black (black_byte l.settings l.square l.line.row k) ∷ [])) l.pen.piece;
  at : l.place.column * l.settings.scale + (l.settings.scale - l.place.left) ≡ 8 * l.done;
  left : 1 ≤ l.place.left;
  within : l.place.left ≤ l.settings.scale;
  far : l.place.column ≤ 377 + 16;
}
