use Rattle.std.proofs.Common.{◌≡◌, ◌-◌, ◌*◌, Some, sym, arith}
use Rattle.qr_pictures.specs.Steps.{IsSide}
use Rattle.qr_pictures.proofs.lemmas.frame.{bottom-found, edges-found, size-least, top-found}
use Rattle.qr_pictures.proofs.lemmas.picture.{none-some, some-pair}
use Rattle.qr_pictures.proofs.frame.frame_of.Goals as goal
use Rattle.qr_pictures.proofs.frame.frame_of.Goals.{then-left-right-via-then-left-right, then-left-right-via-else-left-right+then-right-left}

pub returns-then-top-bottom-clause-finds : goal.returns-then-top-bottom-clause-finds
returns-then-top-bottom-clause-finds c f colours t dark light drawing is =
    let p = c.args.picture.now in
    let size = size-least f.side f.scale drawing.frame.least drawing.frame.scaled in
    let top = top-found p f colours t c.first_row-top.result c.args.light drawing is light c.first_row-top.ensures.most c.first_row-top.ensures.before c.first_row-top.ensures.at in
    let bottom = bottom-found p f colours t c.end_of_rows-bottom.result c.args.light drawing is light c.end_of_rows-bottom.ensures.most c.end_of_rows-bottom.ensures.after c.end_of_rows-bottom.ensures.at in
    absurd (omega arith)

pub returns-then-left-right-clause-finds : goal.returns-then-left-right-clause-finds
returns-then-left-right-clause-finds c f colours t dark light drawing is =
    let p = c.args.picture.now in
    let size = size-least f.side f.scale drawing.frame.least drawing.frame.scaled in
    let top = top-found p f colours t c.first_row-top.result c.args.light drawing is light c.first_row-top.ensures.most c.first_row-top.ensures.before c.first_row-top.ensures.at in
    let bottom = bottom-found p f colours t c.end_of_rows-bottom.result c.args.light drawing is light c.end_of_rows-bottom.ensures.most c.end_of_rows-bottom.ensures.after c.end_of_rows-bottom.ensures.at in
    let edges = edges-found p f colours t c.row-first.result.now c.row-last.result.now c.first_row-top.result c.end_of_rows-bottom.result c.args.dark c.args.light
    c.first_other-first_start.result c.first_other-last_start.result c.end_of_others-first_end.result c.end_of_others-last_end.result c.min-left.result c.max-right.result drawing is dark light top bottom
    (record { len = c.row-first.ensures.len; shows = c.row-first.ensures.pixels }) (record { len = c.row-last.ensures.len; shows = c.row-last.ensures.pixels })
    (record { most = c.first_other-first_start.ensures.most; before = c.first_other-first_start.ensures.before; at = c.first_other-first_start.ensures.at })
    (record { most = c.first_other-last_start.ensures.most; before = c.first_other-last_start.ensures.before; at = c.first_other-last_start.ensures.at })
    (record { most = c.end_of_others-first_end.ensures.most; after = c.end_of_others-first_end.ensures.after; at = c.end_of_others-first_end.ensures.at })
    (record { most = c.end_of_others-last_end.ensures.most; after = c.end_of_others-last_end.ensures.after; at = c.end_of_others-last_end.ensures.at })
    c.min-left.ensures c.max-right.ensures in
    let left = edges.left_is in
    let right = edges.right_is in
    elim c.then-left-right.branch [
      | then-left-right-via-then-left-right w ↦ absurd (omega arith)
      | then-left-right-via-else-left-right+then-right-left w ↦ absurd (w.if-right-left.true (omega arith))
    ]

pub returns-in_err-side-clause-finds : goal.returns-in_err-side-clause-finds
returns-in_err-side-clause-finds c f colours t dark light drawing is =
    let p = c.args.picture.now in
    let size = size-least f.side f.scale drawing.frame.least drawing.frame.scaled in
    let top = top-found p f colours t c.first_row-top.result c.args.light drawing is light c.first_row-top.ensures.most c.first_row-top.ensures.before c.first_row-top.ensures.at in
    let bottom = bottom-found p f colours t c.end_of_rows-bottom.result c.args.light drawing is light c.end_of_rows-bottom.ensures.most c.end_of_rows-bottom.ensures.after c.end_of_rows-bottom.ensures.at in
    let edges = edges-found p f colours t c.row-first.result.now c.row-last.result.now c.first_row-top.result c.end_of_rows-bottom.result c.args.dark c.args.light
    c.first_other-first_start.result c.first_other-last_start.result c.end_of_others-first_end.result c.end_of_others-last_end.result c.min-left.result c.max-right.result drawing is dark light top bottom
    (record { len = c.row-first.ensures.len; shows = c.row-first.ensures.pixels }) (record { len = c.row-last.ensures.len; shows = c.row-last.ensures.pixels })
    (record { most = c.first_other-first_start.ensures.most; before = c.first_other-first_start.ensures.before; at = c.first_other-first_start.ensures.at })
    (record { most = c.first_other-last_start.ensures.most; before = c.first_other-last_start.ensures.before; at = c.first_other-last_start.ensures.at })
    (record { most = c.end_of_others-first_end.ensures.most; after = c.end_of_others-first_end.ensures.after; at = c.end_of_others-first_end.ensures.at })
    (record { most = c.end_of_others-last_end.ensures.most; after = c.end_of_others-last_end.ensures.after; at = c.end_of_others-last_end.ensures.at })
    c.min-left.ensures c.max-right.ensures in
    let left = edges.left_is in
    let right = edges.right_is in
    let width = c.finder_width-width.ensures (7 * f.scale) edges.short edges.three in
    let high : c.end_of_rows-bottom.result - c.first_row-top.result ≡ f.side * f.scale = omega arith in
    let side : IsSide f.side = record { least = drawing.frame.least; most = drawing.frame.most; step = drawing.frame.step } in
    none-some (c.in_err-side.ensures.finds f.side f.scale side drawing.frame.scaled high width)

pub returns-clause-finds : goal.returns-clause-finds
returns-clause-finds c f colours t dark light drawing is =
    let p = c.args.picture.now in
    let size = size-least f.side f.scale drawing.frame.least drawing.frame.scaled in
    let top = top-found p f colours t c.first_row-top.result c.args.light drawing is light c.first_row-top.ensures.most c.first_row-top.ensures.before c.first_row-top.ensures.at in
    let bottom = bottom-found p f colours t c.end_of_rows-bottom.result c.args.light drawing is light c.end_of_rows-bottom.ensures.most c.end_of_rows-bottom.ensures.after c.end_of_rows-bottom.ensures.at in
    let edges = edges-found p f colours t c.row-first.result.now c.row-last.result.now c.first_row-top.result c.end_of_rows-bottom.result c.args.dark c.args.light
    c.first_other-first_start.result c.first_other-last_start.result c.end_of_others-first_end.result c.end_of_others-last_end.result c.min-left.result c.max-right.result drawing is dark light top bottom
    (record { len = c.row-first.ensures.len; shows = c.row-first.ensures.pixels }) (record { len = c.row-last.ensures.len; shows = c.row-last.ensures.pixels })
    (record { most = c.first_other-first_start.ensures.most; before = c.first_other-first_start.ensures.before; at = c.first_other-first_start.ensures.at })
    (record { most = c.first_other-last_start.ensures.most; before = c.first_other-last_start.ensures.before; at = c.first_other-last_start.ensures.at })
    (record { most = c.end_of_others-first_end.ensures.most; after = c.end_of_others-first_end.ensures.after; at = c.end_of_others-first_end.ensures.at })
    (record { most = c.end_of_others-last_end.ensures.most; after = c.end_of_others-last_end.ensures.after; at = c.end_of_others-last_end.ensures.at })
    c.min-left.ensures c.max-right.ensures in
    let left = edges.left_is in
    let right = edges.right_is in
    let width = c.finder_width-width.ensures (7 * f.scale) edges.short edges.three in
    let high : c.end_of_rows-bottom.result - c.first_row-top.result ≡ f.side * f.scale = omega arith in
    let side : IsSide f.side = record { least = drawing.frame.least; most = drawing.frame.most; step = drawing.frame.step } in
    let found = some-pair c.in_ok-side.side c.in_ok-side.scale f.side f.scale (c.in_ok-side.ensures.finds f.side f.scale side drawing.frame.scaled high width) in
    let side_is = found.0 in
    let scale_is = found.1 in
    let dark_is = sym dark in
    let light_is = sym light in
    λ i. Some (record { side = side_is i; scale = scale_is i; left = left i; top = top i; dark = dark_is i; light = light_is i })
