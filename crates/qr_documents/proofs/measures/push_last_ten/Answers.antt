use Rattle.{qr_documents.proofs.lemmas.measures.ten-digits, std.proofs.Common.append_assoc}
use Rattle.qr_documents.proofs.measures.push_last_ten.Goals as goal

pub returns-clause-items : goal.returns-clause-items
returns-clause-items g c =
    rw (c.push_last_three-3.ensures.items, c.push_last_three-2.ensures.items, c.push_last_three.ensures.items, c.push.ensures.items, c.last_digit.ensures, ten-digits c.args.number) (simp append_assoc)
