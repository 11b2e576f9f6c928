use Rattle.qr_pictures.proofs.lemmas.frame.{width-found}
use Rattle.qr_pictures.proofs.frame.finder_width.Goals as goal

pub returns-then-upper_right-lower_left : goal.returns-then-upper_right-lower_left
returns-then-upper_right-lower_left c w short h =
    (width-found c.args.first.now c.args.last.now c.args.left c.args.right w c.args.dark c.end_of_others.result c.first_other-lower_left.result 0 short c.requires.first_in c.requires.last_in h
    (record { most = c.end_of_others.ensures.most; after = c.end_of_others.ensures.after; at = c.end_of_others.ensures.at })
    (record { most = c.first_other-lower_left.ensures.most; before = c.first_other-lower_left.ensures.before; at = c.first_other-lower_left.ensures.at })).0 c.if-upper_right-lower_left.true

pub returns-else-upper_right-lower_left : goal.returns-else-upper_right-lower_left
returns-else-upper_right-lower_left c w short h =
    (width-found c.args.first.now c.args.last.now c.args.left c.args.right w c.args.dark c.end_of_others.result c.first_other-lower_left.result c.first_other.result short c.requires.first_in c.requires.last_in h
    (record { most = c.end_of_others.ensures.most; after = c.end_of_others.ensures.after; at = c.end_of_others.ensures.at })
    (record { most = c.first_other-lower_left.ensures.most; before = c.first_other-lower_left.ensures.before; at = c.first_other-lower_left.ensures.at })).1 c.if-upper_right-lower_left.false
    (record { most = c.first_other.ensures.most; before = c.first_other.ensures.before; at = c.first_other.ensures.at })
