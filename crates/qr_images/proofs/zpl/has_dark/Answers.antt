use Rattle.std.proofs.Common.{◌∙◌}
use Rattle.qr_images.proofs.lemmas.runs.{dark-more, dark-none}
use Rattle.qr_images.proofs.zpl.has_dark.Goals as goal

pub loop-column-init : goal.loop-column-init
loop-column-init c = dark-none c.args.settings.now c.args.square.now c.args.row

pub loop-column-preserved : goal.loop-column-preserved
loop-column-preserved c = dark-more c.loop-column.column c.args.settings.now c.args.square.now c.args.row c.loop-column.dark c.is_dark-dark.result c.loop-column.invariant (c.is_dark-dark.ensures ∙ c.cells_of-cells.ensures.dark c.loop-column.column)
