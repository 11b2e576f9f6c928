use Rattle.{std.proofs.Common.{◌-◌, arith}, qr_drawing.proofs.lemmas.text.CellLemmas.dark-eight}
use Rattle.qr_drawing.proofs.text.dark_bits.Goals as goal

pub returns : goal.returns
returns g c =
    dark-eight c.args.margin (g.M.Eights.seen c.args.square.now) c.args.y (c.args.y - c.from-first.result) c.args.col c.eight.result
    (omega arith) (omega arith) c.eight.ensures
