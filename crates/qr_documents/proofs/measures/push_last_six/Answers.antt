use Rattle.{qr_documents.proofs.lemmas.measures.six-digits, std.proofs.Common.append_assoc}
use Rattle.qr_documents.proofs.measures.push_last_six.Goals as goal

pub returns-clause-items : goal.returns-clause-items
returns-clause-items c = rw (c.push_last_three-2.ensures.items, c.push_last_three.ensures.items, six-digits c.args.number) (simp append_assoc)
