use Rattle.std.proofs.Common.{arith, ◌∙◌, sym}
use Rattle.qr_images.proofs.lemmas.pixels.{dark_above, dark_below, none-in, row-in}
use Rattle.qr_images.proofs.pixels.cells_of.Goals.{then-row-first-via-then-row-first, then-row-first-via-else-row-first+then-row-first-2}
use Rattle.qr_images.proofs.pixels.cells_of.Goals as goal

pub returns-then-row-first-clause-dark : goal.returns-then-row-first-clause-dark
returns-then-row-first-clause-dark c = λ x.
    let margin = c.args.margin in
    let square = c.args.square.now in elim c.then-row-first.branch [
      | then-row-first-via-then-row-first w ↦ none-in margin x ∙ sym (dark_above margin c.args.row x square (omega (arith, w.if-row-first.true, c.from-first.ensures)))
      | then-row-first-via-else-row-first+then-row-first-2 w ↦
          none-in margin x ∙ sym (dark_below margin c.args.row x square (omega (arith, w.if-row-first.false, w.if-row-first-2.true, w.from.ensures, w.side.ensures.value, c.from-first.ensures)))
    ]

pub returns-clause-dark : goal.returns-clause-dark
returns-clause-dark c = λ x.
    row-in c.args.margin c.args.row c.args.square.now c.row.result.now (omega (arith, c.if-row-first.false, c.from-first.ensures))
    (omega (arith, c.if-row-first.false, c.if-row-first-2.false, c.from.ensures, c.side.ensures.value, c.from-first.ensures)) c.row.ensures.len (rw c.from-first.ensures at c.row.ensures.modules) x
