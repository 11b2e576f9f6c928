use Rattle.std.proofs.{Common.{rules, ◌≡◌, ◌<◌, ◌+◌, ◌*◌, ◌∙◌, length, set, arith}, lemmas.List.length-set}
use Rattle.qr_parsing.proofs.lemmas.{text.PlaceLemmas.place-in, svg.PaintLemmas.{painted, painted-one, painted-two}}
use Rattle.qr_parsing.proofs.svg.paint.Goals as goal

pub loop-col-init : goal.loop-col-init
loop-col-init c i lt =
    let bytes = c.args.bytes.now in
    let w = c.args.width in
    let y = c.args.dark.y in
    let x = c.args.dark.x in
    let long = length-set (set bytes (y * w + x) 1) (y * w + (x + 1)) 1 ∙ length-set bytes (y * w + x) 1 in
    painted-two w c.args.height y x bytes c.requires.area c.requires.some c.if-y-height.true (omega arith) i (omega arith)

pub loop-col-preserved : goal.loop-col-preserved
loop-col-preserved c i lt =
    let w = c.args.width in
    let y = c.args.dark.y in
    let col = c.loop-col.col in
    let in_col : col < w = omega arith in
    let place = place-in c.args.height w y col c.if-y-height.true in_col in
    let same : length c.loop-col.bytes ≡ length c.args.bytes.now = search (rules, length-set) in
    let in_i : i < length c.loop-col.bytes = omega (arith, length-set c.loop-col.bytes (y * w + col) 1) in
    painted w c.args.height y c.args.dark.x col c.loop-col.bytes c.args.bytes.now c.requires.some in_col (omega arith) (omega arith) c.loop-col.invariant i in_i

pub returns-else-x-end-2 : goal.returns-else-x-end-2
returns-else-x-end-2 c i lt =
    painted-one c.args.width c.args.height c.args.dark.y c.args.dark.x c.args.dark.modules c.args.bytes.now c.requires.area c.requires.some c.if-y-height.true (omega arith) (omega arith)
    i (omega arith)
