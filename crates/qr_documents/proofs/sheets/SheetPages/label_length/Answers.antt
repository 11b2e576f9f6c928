use Rattle.qr_documents.proofs.lemmas.sheets.{label-length-is}
use Rattle.std.proofs.Common.{◌∙◌}
use Rattle.qr_documents.proofs.sheets.SheetPages.label_length.Goals as goal

pub returns-clause-value : goal.returns-clause-value
returns-clause-value g c =
    label-length-is c.args.self.now.settings c.in-Some.raster.margin c.args.place c.square_length.result c.in-Some.raster.matrix.now c.as_slice.result.now _ c.in-Some.ensures.0
    c.in-Some.ensures.2 (c.as_slice.ensures.value ∙ c.corner-corner.ensures.items) c.square_length.ensures.value
