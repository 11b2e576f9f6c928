use Rattle.{qr_layout.specs.Version.side_of, qr_matrix.specs.Grid.Grid, qr_symbol.proofs.Facts.symbol-read, std.proofs.Common.{◌≡◌, ap, arith}}
use Rattle.qr_theorems.proofs.lemmas.laws.ImageLemmas.{image-read}
use Rattle.qr_theorems.proofs.laws.images_are_read.Goals as goal

pub returns : goal.returns
returns c = λ x l rule i h mask g may s o some scale margin metre differ.
    let side : g.side ≡ side_of c.args.version = ap (λ (k : Grid). k.side) s.drawn in
    image-read c.args.version l rule i x h mask g o c.files_are_read_back.ensures s some scale margin metre differ (omega (arith, side)) (omega (arith, side))
    (symbol-read c.args.version l rule i x h mask g (omega arith) (omega arith) may s)
