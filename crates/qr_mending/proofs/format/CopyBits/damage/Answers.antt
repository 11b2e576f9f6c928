use Rattle.{qr_mending.{proofs.lemmas.format.{bits-counted, misread-counted}, specs.Format.copy_bit}, std.proofs.Common.rules}
use Rattle.qr_mending.proofs.format.CopyBits.damage.Goals as goal

pub returns-clause-unread : goal.returns-clause-unread
returns-clause-unread c = search (rules, bits-counted)

pub returns-clause-misread : goal.returns-clause-misread
returns-clause-misread c = λ u g copy h.
    misread-counted c.args.self.dark c.args.word c.args.self.unread c.count_bits-2.result (copy_bit copy g) (copy_bit copy u)
    c.count_bits-2.ensures.value h.dark h.unread
