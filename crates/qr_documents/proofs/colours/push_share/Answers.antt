use Rattle.qr_documents.specs.{Colours.share, Measures.fraction}
use Rattle.std.proofs.{Common.{◌+◌, ◌*◌, ◌/◌, append_assoc, arith}, lemmas.Fmt.decimal_digit}
use Rattle.qr_documents.proofs.colours.push_share.Goals as goal

pub returns-clause-items : goal.returns-clause-items
unfolding share fraction
returns-clause-items c =
    let thousandths = (2000 * c.args.amount + 255) / 510 in
    rw (c.push_last_three.ensures.items, c.push.ensures.items, c.push_digit.ensures.items, c.from-2.ensures, c.from.ensures, decimal_digit (thousandths / 1000) (omega arith)) (simp append_assoc)
