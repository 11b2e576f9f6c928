use Rattle.std.proofs.Common.{◌<◌, ◌≤◌, ◌+◌, ◌*◌, ◌-◌, inl, inr, arith, rules}
use Rattle.std.proofs.lemmas.{Bool.Decides.{Decides-eqb}, Slice.Eq.{slice_eq-Decides}}
use Rattle.qr_pictures.proofs.lemmas.drawn.{copied-row, line-decided, margin-row, row-later}
use Rattle.qr_pictures.proofs.drawn.is_row_drawn.Goals as goal

pub returns-then-y-frame : goal.returns-then-y-frame
returns-then-y-frame c =
    margin-row c.args.picture.now c.args.frame.now c.args.y c.row-line.result.now c.are_all.result (inl c.if-y-frame.true) c.row-line.ensures.len c.row-line.ensures.pixels c.are_all.ensures

pub returns-then-y-frame-2 : goal.returns-then-y-frame-2
returns-then-y-frame-2 c =
    let below : c.args.frame.now.top + c.args.frame.now.side * c.args.frame.now.scale ≤ c.args.y = first_of (search rules, grind arith) in
    margin-row c.args.picture.now c.args.frame.now c.args.y c.row-line.result.now c.are_all-then-y-frame-2.result (inr below) c.row-line.ensures.len c.row-line.ensures.pixels c.are_all-then-y-frame-2.ensures

pub returns-then-y-frame-eq0 : goal.returns-then-y-frame-eq0
returns-then-y-frame-eq0 c =
    let inside : c.args.y < c.args.frame.now.top + c.args.frame.now.side * c.args.frame.now.scale = first_of (search rules, grind arith) in
    line-decided c.args.picture.now c.args.frame.now c.args.y c.row-line.result.now c.is_line_drawn.result c.requires.frame c.if-y-frame.false inside c.if-y-frame-eq0.true
    c.row-line.ensures.len c.row-line.ensures.pixels c.is_line_drawn.ensures

pub returns : goal.returns
returns c =
    let inside : c.args.y < c.args.frame.now.top + c.args.frame.now.side * c.args.frame.now.scale = first_of (search rules, grind arith) in
    let later = row-later c.args.y c.args.frame.now.top c.args.frame.now.scale c.if-y-frame.false c.if-y-frame-eq0.false in
    let up : c.args.y - 1 < c.args.y = omega arith in
    copied-row c.args.picture.now c.args.frame.now c.args.y c.row-line.result.now c.row.result.now c.eq.result c.requires.frame c.if-y-frame.false inside c.if-y-frame-eq0.false
    c.row-line.ensures.len c.row-line.ensures.pixels c.row.ensures.len c.row.ensures.pixels (c.requires.above (c.args.y - 1) up) (slice_eq-Decides Decides-eqb c.row-line.result.now c.row.result.now c.eq.result c.eq.ensures)
