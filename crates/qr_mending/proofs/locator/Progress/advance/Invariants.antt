use Rattle.{qr_mending.specs.Steps.Polynomial.IsProgress, std.proofs.Common.◌≡◌}
use Rattle.qr_mending.proofs.locator.Progress.advance.Given as goal

abbrev pub invariant-loop-i : goal.invariant-loop-i
invariant-loop-i l = record {
  taken : l.self.taken ≡ l.i;
  progress : IsProgress l.t l.remainder l.self;
}
