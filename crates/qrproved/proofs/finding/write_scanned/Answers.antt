use Rattle.std.proofs.Common.{arith, ap, ◌∙◌, ℕ, List, length, inr}
use Rattle.qrproved.proofs.lemmas.finding.{fits-place, scanned-more}
use Rattle.qrproved.proofs.finding.write_scanned.Goals as goal

pub put-requires : goal.put-requires
put-requires c =
    let few = fits-place c.args.squares.now c.square-item.result c.loop-square.square-index c.loop-square-test.true c.square-item.is c.requires.small in
    let long = ap (λ (xs : List ℕ). length xs) c.deref.ensures.value in
    omega (arith, few, long, c.loop-square.invariant.start, c.loop-square.invariant.long, c.requires.room, c.loop-square-test.true)

pub loop-square-preserved : goal.loop-square-preserved
loop-square-preserved c =
    let is = c.loop-square.invariant in
    let put = c.put.ensures in
    let few = fits-place c.args.squares.now c.square-item.result c.loop-square.square-index c.loop-square-test.true c.square-item.is c.requires.small in
    let long = ap (λ (xs : List ℕ). length xs) c.deref.ensures.value in
    record {
      start = omega (arith, is.start);
      long = put.long ∙ is.long;
      each = scanned-more c.args.squares.now c.square-item.result c.loop-square.square-index c.loop-square.start c.deref.result.now c.args.out.now
          c.loop-square.out c.put.new.out c.loop-square-test.true c.square-item.is c.requires.small c.deref.ensures.value is.start is.each is.others
          put.written put.others;
      others = λ j g. put.others j (inr (omega (arith, few, long))) ∙ is.others j (omega arith);
    }
