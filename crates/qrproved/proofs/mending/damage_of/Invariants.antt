use Rattle.{qrproved.specs.Mending.{block_at, spent_in, wrong_in, IsGreatest, IsWorstBlock}, std.proofs.Common.{◌≡◌}}
use Rattle.qrproved.proofs.mending.damage_of.Given as goal

-- the damage of the blocks before the current one
abbrev pub invariant-loop-i : goal.invariant-loop-i
invariant-loop-i l = record {
  misread : IsGreatest (λ c. c.misread) l.changed l.i l.misread;
  spent : IsGreatest spent_in l.changed l.i l.spent;
  worst : IsWorstBlock l.changed l.i l.worst;
  wrong : l.wrong ≡ wrong_in (block_at l.changed l.worst);
}
