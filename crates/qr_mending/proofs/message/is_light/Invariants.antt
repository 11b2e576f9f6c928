use Rattle.{std.proofs.Common.{◌≡◌, ◌<◌, ℕ, false}, qr_matrix.specs.Grid.colour}
use Rattle.qr_mending.proofs.message.is_light.Given as goal

abbrev pub invariant-loop-row : goal.invariant-loop-row
invariant-loop-row l = (r c : ℕ) → r < l.row → c < l.square.side → colour l.square r c ≡ false
