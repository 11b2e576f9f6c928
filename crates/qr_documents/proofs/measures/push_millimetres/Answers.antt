use Rattle.{qr_documents.specs.Measures.{fraction, millimetres}, std.proofs.Common.append_assoc}
use Rattle.qr_documents.proofs.measures.push_millimetres.Goals as goal

pub returns-clause-items : goal.returns-clause-items
unfolding millimetres fraction
returns-clause-items c = rw (c.push_last_three.ensures.items, c.push.ensures.items, c.push_decimal.ensures.items) (simp append_assoc)
