use Rattle.{qr_symbol.specs.Interleaving.IsChecks, std.specs.Prelude.◌*◌}
use Rattle.qr_symbol.proofs.interleaving.corrections.Given as goal

abbrev pub invariant-loop-pair : goal.invariant-loop-pair
invariant-loop-pair l = IsChecks l.fn.blocks l.message (2 * l.pair) l.corrections.items
