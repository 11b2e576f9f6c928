use Rattle.std.proofs.Common.{◌∙◌}
use Rattle.qr_symbol.proofs.reading.size_and_mask.Goals as goal

pub returns-in_default-clause-unread : goal.returns-in_default-clause-unread
returns-in_default-clause-unread c = λ v s. c.in_default.ensures v s.least s.most (c.side.ensures.value ∙ s.side)
