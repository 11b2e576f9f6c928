use Rattle.qr_drawing.specs.declared.drawing.Drawing.TheVariants.{Utf8}
use Rattle.{qr_parsing.{proofs.lemmas.{parsing.too-wide, text.PlaceLemmas.cell-inside}, specs.Steps.Text.first_line}, std.proofs.Common.{rules, ◌∙◌, ap, arith}}
use Rattle.qr_parsing.proofs.text.cell_sheet.Goals as goal

pub returns-then-width-lt-SIDE_MIN : goal.returns-then-width-lt-SIDE_MIN
returns-then-width-lt-SIDE_MIN c text kind cells =
    too-wide text Utf8 c.position_of-width.result kind (c.position_of-width.ensures ∙ ap first_line cells)
    (search rules)

pub invariant_of-result-clause-whole : goal.invariant_of-result-clause-whole
invariant_of-result-clause-whole c = λ k y x a b l.
    cell-inside _ c.position_of-width.result c.div_ceil.result _ k y x (omega arith) (omega arith) (omega arith) a b l

pub returns : goal.returns
returns c text kind cells = search (arith, c.position_of-width.ensures ∙ ap first_line cells)
