use Rattle.std.proofs.{Common.◌∙◌, Common.sum_by, Common.ap, Common.arith, lemmas.List.take_all}
use Rattle.qr_bits.{specs.Segmentation.{least_sixths, least_bits}, proofs.lemmas.lower_bound.least-held}
use Rattle.qr_bits.proofs.lower_bound.least_bits.Goals as goal

pub returns-clause-least : goal.returns-clause-least
unfolding least_bits
returns-clause-least c i v room r fit =
    omega (arith, least-held i v r c.args.input.now room fit, c.loop-byte.invariant.so_far ∙ ap (sum_by least_sixths) (take_all c.loop-byte.byte-index c.args.input.now (omega arith)))
