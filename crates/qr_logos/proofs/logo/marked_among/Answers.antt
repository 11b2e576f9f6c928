use Rattle.{qr_logos.proofs.lemmas.logo.BlockLemmas.count-most, std.{proofs.Common.{false, ◌+◌, ◌*◌, arith}, specs.List.slice_index_or}}
use Rattle.qr_logos.proofs.logo.marked_among.Goals as goal

pub overflow_add-marked : goal.overflow_add-marked
overflow_add-marked c =
    let few = count-most c.loop-i.i (λ p. slice_index_or c.args.marks.now (c.args.first + c.args.step * p) false) in
    omega (arith, few, c.loop-i.invariant, c.requires.count, c.loop-i-test.true)

pub returns-clause-most : goal.returns-clause-most
returns-clause-most c =
    let few = count-most c.loop-i.i (λ p. slice_index_or c.args.marks.now (c.args.first + c.args.step * p) false) in
    omega (arith, few, c.loop-i.invariant, c.loop-i.auto.i-end)
