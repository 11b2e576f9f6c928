use Rattle.{arrayvec.specs.ArrayVec.array_vec_len, qr_mending.specs.Steps.Sums.HasValues, std.proofs.Common.{◌-◌, ◌≤◌, length}}
use Rattle.qr_mending.proofs.sums.syndromes.Given as goal

abbrev pub invariant-loop-syndromes : goal.invariant-loop-syndromes
invariant-loop-syndromes l = record {
  most : array_vec_len l.syndromes ≤ length l.remainder;
  values : HasValues l.syndromes.items l.remainder;
}

abbrev pub decreases-loop-syndromes : goal.decreases-loop-syndromes
decreases-loop-syndromes l = length l.remainder - array_vec_len l.syndromes
