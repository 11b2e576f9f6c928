use Rattle.{qr_bits.proofs.Facts.parsed-few, qr_symbol.proofs.Facts.data-sizes-whole, std.proofs.Common.◌∙◌}
use Rattle.qr_mending.proofs.laws.mended_readings_are_short.Goals as goal

pub returns : goal.returns
returns c = λ unknown g v l m p x r.
    let sized = r.form.sized in
    parsed-few v l r.message p sized.least sized.most
    (r.form.damaged.mended.long ∙ data-sizes-whole v l sized.least sized.most) r.parsed
