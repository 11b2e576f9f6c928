use Rattle.std.proofs.Common.{false}
use Rattle.qr_matrix.proofs.bit_row.BitRow.below.Goals as goal

pub returns-then-n-lt64 : goal.returns-then-n-lt64
returns-then-n-lt64 c = c.below_in.ensures false

pub returns-then-n-lt128 : goal.returns-then-n-lt128
returns-then-n-lt128 c = c.below_in-then-n-lt128.ensures false

pub returns : goal.returns
returns c = c.below_in-2.ensures false
