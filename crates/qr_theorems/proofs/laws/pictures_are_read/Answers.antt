use Rattle.std.proofs.Common.{◌≡◌, ◌≤◌, ◌*◌, ◌∙◌, sym, subst, arith}
use Rattle.std.proofs.lemmas.Nat.{mul-le}
use Rattle.qr_matrix.specs.Grid.{Grid}
use Rattle.qr_symbol.{proofs.Facts.symbol-read, specs.Reading.{IsReading, interpreted_content}}
use Rattle.qr_theorems.proofs.lemmas.laws.PictureLemmas.{clean-at, picture-clean}
use Rattle.qr_theorems.proofs.laws.pictures_are_read.Goals as goal

pub write_modules-requires-clause-frame : goal.write_modules-requires-clause-frame
write_modules-requires-clause-frame c = c.in_ok-square.ensures.1.drawing.frame

pub write_modules-requires-clause-room : goal.write_modules-requires-clause-room
write_modules-requires-clause-room c =
    let side = c.in_ok-square.square.frame.side in
    let most : side ≤ 177 = c.in_ok-square.ensures.1.drawing.frame.most in
    let area : side * side ≤ 177 * 177 = mul-le side side 177 177 most most in
    omega arith

pub returns-in_err-square : goal.returns-in_err-square
returns-in_err-square c =
    rw c.from_residual.ensures (λ x l rule i h mask g may s o some scale margin metre p as_grey file pixels differ.
    absurd (c.in_err-square.ensures (clean-at c.args.version o as_grey) g
    (picture-clean c.args.version l rule i x h mask g o p as_grey c.args.picture.now c.files_are_read_back.ensures s some scale margin metre (omega arith) (omega arith) file pixels differ)))

pub returns : goal.returns
returns c = λ x l rule i h mask g may s o some scale margin metre p as_grey file pixels differ.
    let clean = picture-clean c.args.version l rule i x h mask g o p as_grey c.args.picture.now c.files_are_read_back.ensures s some scale margin metre (omega arith) (omega arith) file pixels differ in
    let shown = c.in_ok-square.ensures in
    let one = c.clean_pictures_are_one.ensures c.args.picture.now c.in_ok-square.square (clean-at c.args.version o as_grey) shown.0 g shown.1 clean in
    let same = c.write_modules.ensures.square shown.0 shown.1 ∙ one.1 in
    subst (λ (z : Grid). IsReading z (interpreted_content i h s.segments x)) (sym same) (symbol-read c.args.version l rule i x h mask g (omega arith) (omega arith) may s)
