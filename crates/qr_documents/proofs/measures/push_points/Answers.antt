use Rattle.{qr_documents.specs.Measures.{fraction, points}, std.proofs.Common.append_assoc}
use Rattle.qr_documents.proofs.measures.push_points.Goals as goal

pub returns-clause-items : goal.returns-clause-items
unfolding points fraction
returns-clause-items c = rw (c.push_last_six.ensures.items, c.push.ensures.items, c.push_decimal.ensures.items) (simp append_assoc)
