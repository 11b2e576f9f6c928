use Rattle.qr_documents.{specs.Sheets.corner_of, proofs.lemmas.sheets.{column-in, row-in}}
use Rattle.std.proofs.Common.{append_assoc, arith}
use Rattle.qr_documents.proofs.sheets.push_corner.Goals as goal

pub offset-x-requires : goal.offset-x-requires
offset-x-requires c = rw c.from-columns.ensures (omega (arith, column-in c.args.sheet.now c.args.size c.args.place c.requires.sheet c.requires.fits, c.requires.sheet.width))

pub offset-above-requires : goal.offset-above-requires
offset-above-requires c = rw c.from-columns.ensures (omega (arith, row-in c.args.sheet.now c.args.size c.args.place c.requires.sheet c.requires.fits c.requires.place, c.requires.sheet.height))

pub below-y-requires : goal.below-y-requires
below-y-requires c = omega (arith, row-in c.args.sheet.now c.args.size c.args.place c.requires.sheet c.requires.fits c.requires.place, rw c.from-columns.ensures at c.offset-above.ensures.value)

pub returns-clause-items : goal.returns-clause-items
unfolding corner_of
returns-clause-items c = rw (c.push_points-2.ensures.items, c.push.ensures.items, c.push_points.ensures.items, c.below-y.ensures.value, c.offset-above.ensures.value, c.offset-x.ensures.value, c.from-columns.ensures) (simp append_assoc)
