use Rattle.std.proofs.Common.{◌∙◌, ap}
use Rattle.qr_matrix.specs.Grid.{Grid}
use Rattle.qr_drawing.specs.{Text.text_drawing}
use Rattle.qrproved.{proofs.lemmas.row.{drawn-text, one-square, same-square}, specs.{Modules.square_of_bytes, Row.style_of}}
use Rattle.qrproved.proofs.laws.rows_are_the_drawing.Goals as goal

pub returns : goal.returns
returns c = λ n margin g blank bits empty modules l p q.
    ap (λ (h : Grid). text_drawing (style_of n) margin h) (same-square g blank bits empty modules p q)
    ∙ (rw one-square (drawn-text n margin (square_of_bytes g.side modules) l))
