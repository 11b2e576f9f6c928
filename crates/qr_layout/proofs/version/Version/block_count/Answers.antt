use Rattle.{qr_layout.{proofs.version.Version.block_count.Goals.{in-L, in-M, in-Q, in-H}, specs.Blocks.block_count_of}, std.proofs.Common.rules}
use Rattle.qr_layout.proofs.version.Version.block_count.Goals as goal

pub returns : goal.returns
unfolding block_count_of
returns c = search (rules, in-L, in-M, in-Q, in-H)
