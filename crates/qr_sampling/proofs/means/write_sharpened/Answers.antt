use Rattle.qr_sampling.proofs.lemmas.means.{sharpened-is}
use Rattle.std.proofs.Common.{◌≢◌, ◌<◌, ◌%◌, ◌/◌, length, below_more, get_or-set_other, get_or-set_same, arith}
use Rattle.qr_sampling.proofs.means.write_sharpened.Goals as goal

pub loop-k-preserved : goal.loop-k-preserved
loop-k-preserved c f is =
    let s = c.args.side in
    let k = c.loop-k.k in
    below_more _ _
    (λ j h. let ne : j ≢ c.loop-k.k = omega arith in rw get_or-set_other (c.loop-k.invariant f is j h))
    (let lt : c.loop-k.k < length c.loop-k.sharp = omega arith in
    rw get_or-set_same (sharpened-is s f (k % s) (k / s) c.entry.result c.beside-others.result c.sharpened_value.result (c.entry.ensures f is) (c.beside-others.ensures.value f is) c.sharpened_value.ensures))
