use Rattle.{qr_mending.specs.Steps.Polynomial.IsSearch, std.proofs.Common.◌≤◌}
use Rattle.qr_mending.proofs.locator.locator.Given as goal

abbrev pub invariant-loop-i : goal.invariant-loop-i
invariant-loop-i l = record {
  found : IsSearch l.i l.syndromes l.search;
  degree : l.search.best.degree ≤ l.t;
}
