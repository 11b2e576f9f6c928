use Rattle.std.proofs.Common.{◌≡◌, ◌≤◌, ◌+◌, ◌-◌, ◌*◌, ◌/◌, not}
use Rattle.qr_images.specs.Steps.Pixels.{is_dark_in}
use Rattle.qr_images.proofs.lemmas.pixels.{digits_of}
use Rattle.qr_images.proofs.pixels.next_byte.Given as goal

abbrev pub invariant-loop-done : goal.invariant-loop-done
invariant-loop-done l = record {
  value : l.byte ≡ digits_of (λ j. not (is_dark_in l.margin l.cells ((l.fn.place.column * l.scale + (l.scale - l.fn.place.left) + j) / l.scale))) l.done;
  within8 : l.done ≤ 8;
  next : l.at.column * l.scale + (l.scale - l.at.left) ≡ l.fn.place.column * l.scale + (l.scale - l.fn.place.left) + l.done;
  left : 1 ≤ l.at.left;
  within : l.at.left ≤ l.scale;
  far : l.at.column ≤ l.fn.place.column + l.done;
}

abbrev pub decreases-loop-done : goal.decreases-loop-done
decreases-loop-done l = 8 - l.done
