use Rattle.std.proofs.Common.{◌≡◌, ◌≤◌, ◌+◌, ◌-◌, ◌*◌, ◌/◌, ◌%◌, ◌++◌, ◌∷◌, []}
use Rattle.qr_images.specs.{Image.{black_byte, joined_below}, Packing.runs_from, Steps.Runs.WentOn}
use Rattle.qr_images.proofs.zpl.put_packed_line.Given as goal

abbrev pub invariant-loop-done : goal.invariant-loop-done
invariant-loop-done g l = record {
  went : WentOn (g.W.Sink.device l.fn.out) (g.W.Sink.device l.out) l.fn.pen.interrupted l.pen.interrupted l.fn.pen.piece l.pen.piece
      (λ rest. runs_from 0 0 (joined_below l.done (λ k. black_byte l.settings l.square l.row k / 16 ∷ black_byte l.settings l.square l.row k % 16 ∷ []) ++ rest))
      (λ rest. runs_from l.run.digit l.run.count rest);
  at : l.place.column * l.settings.scale + (l.settings.scale - l.place.left) ≡ 8 * l.done;
  left : 1 ≤ l.place.left;
  within : l.place.left ≤ l.settings.scale;
  far : l.place.column ≤ 377 + 16;
}
