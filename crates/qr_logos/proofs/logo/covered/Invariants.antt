use Rattle.std.proofs.Common.{◌≤◌}
use Rattle.qr_logos.proofs.lemmas.logo.BlockLemmas.{IsMostBefore}
use Rattle.qr_logos.proofs.logo.covered.Given as goal

abbrev pub invariant-loop-block : goal.invariant-loop-block
invariant-loop-block l = record {
  most : IsMostBefore l.blocks l.marks l.block l.most;
  small : l.most ≤ 153;
}
