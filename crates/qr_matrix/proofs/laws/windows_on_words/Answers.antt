use Rattle.std.proofs.Common.{false}
use Rattle.qr_matrix.proofs.laws.windows_on_words.Goals as goal

pub returns : goal.returns
returns c = (c.count_all.ensures false).windows_are
