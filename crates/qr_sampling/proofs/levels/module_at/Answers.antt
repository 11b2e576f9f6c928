use Rattle.qr_sampling.proofs.lemmas.levels.{placed-mirrored, placed-upright}
use Rattle.std.proofs.Common.{◌%◌, ◌/◌, ◌∙◌}
use Rattle.qr_sampling.proofs.levels.module_at.Goals as goal

pub returns-then-how : goal.returns-then-how
returns-then-how c f is sums =
    let how = c.args.how.now in
    c.module_in.ensures f (c.entry.ensures f is) sums ∙ placed-mirrored how f (c.args.k % how.side) (c.args.k / how.side) c.if-how.true

pub returns-else-how : goal.returns-else-how
returns-else-how c f is sums =
    let how = c.args.how.now in
    c.module_in-else-how.ensures f (c.entry-else-how.ensures f is) sums ∙ placed-upright how f (c.args.k % how.side) (c.args.k / how.side) c.if-how.false
