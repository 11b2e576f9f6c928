use Rattle.std.proofs.Common.{◌≤◌, arith}
use Rattle.qr_logos.proofs.lemmas.logo.BlockLemmas.{marked-most, most-covered, most-next, most-start}
use Rattle.qr_logos.proofs.logo.covered.Goals as goal

pub loop-block-init : goal.loop-block-init
loop-block-init c = record {
  most = most-start c.blocks-blocks.result c.mark_covered.new.marks;
  small = omega arith;
}

pub loop-block-preserved : goal.loop-block-preserved
loop-block-preserved c =
    let marks = c.mark_covered.new.marks in
    let few : c.marked_in.result ≤ 153 =
    rw (c.marked_in.ensures, c.blocks-blocks.ensures) (marked-most c.args.version c.args.level marks c.loop-block.block (omega arith) (omega arith)) in
    record {
      most = rw c.max-most.ensures (most-next c.blocks-blocks.result marks c.loop-block.block c.loop-block.most c.marked_in.result c.marked_in.ensures c.loop-block.invariant.most);
      small = omega (arith, c.max-most.ensures, c.loop-block.invariant.small, few);
    }

pub overflow_cast-result : goal.overflow_cast-result
overflow_cast-result c = omega (arith, c.loop-block.invariant.small)

pub returns : goal.returns
returns c =
    let made = c.blocks-blocks.ensures in
    most-covered c.args.version c.args.level c.args.side c.mark_covered.new.marks c.loop-block.block c.loop-block.most (omega arith) (omega arith) c.mark_covered.ensures
    (omega (arith, c.loop-block.auto.block-end, c.loop-block-test.false, rw made at c.from.ensures, rw made at c.from-2.ensures))
    (rw made at c.loop-block.invariant.most)
