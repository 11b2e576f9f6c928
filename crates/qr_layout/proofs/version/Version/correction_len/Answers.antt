use Rattle.{qr_layout.{proofs.version.Version.correction_len.Goals.{in-L, in-M, in-Q, in-H}, specs.Blocks.correction_len_of}, std.proofs.Common.rules}
use Rattle.qr_layout.proofs.version.Version.correction_len.Goals as goal

pub returns : goal.returns
unfolding correction_len_of
returns c = search (rules, in-L, in-M, in-Q, in-H)
