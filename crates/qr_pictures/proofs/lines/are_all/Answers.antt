use Rattle.qr_pictures.proofs.lemmas.lines.{all-decided}
use Rattle.qr_pictures.proofs.lines.are_all.Goals as goal

pub returns : goal.returns
returns c =
    all-decided c.args.line.now c.args.from c.args.end c.args.value c.first_other.result c.requires.room
    (record { most = c.first_other.ensures.most; before = c.first_other.ensures.before; at = c.first_other.ensures.at })
