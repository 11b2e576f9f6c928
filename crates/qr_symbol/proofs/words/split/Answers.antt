use Rattle.std.proofs.Common.{rules, ◌/◌, ◌-◌, ◌*◌, ◌^◌, true, false, arith}
use Rattle.qr_symbol.proofs.lemmas.words.SplitLemmas.{columns-bits, downward-bit, halves, upward-bit}
use Rattle.qr_symbol.proofs.words.split.Goals as goal

pub returns-then-upward : goal.returns-then-upward
returns-then-upward c =
    let n = c.args.bits in let k = c.args.count in
    let both = halves n c.unshuffled-halves.result (n / 2 ^ (64 - 2 * k)) k true c.requires.few (omega arith) c.unshuffled-halves.ensures (λ i. upward-bit n k i (omega (arith, c.ranges.bits.fits)) c.requires.few) in
    rw c.if-upward.true (record {
      right = λ i. (columns-bits n k i true _ _ c.requires.few (both i).0 (both i).1).0;
      left = λ i. (columns-bits n k i true _ _ c.requires.few (both i).0 (both i).1).1;
    })

pub returns-else-upward : goal.returns-else-upward
returns-else-upward c =
    let n = c.args.bits in let k = c.args.count in
    let both = halves n c.unshuffled-halves-else-upward.result (c.reversed.result / 2 ^ (64 - 2 * k)) k false c.requires.few (omega arith) c.unshuffled-halves-else-upward.ensures
    (λ i. downward-bit n c.reversed.result k i (omega (arith, c.ranges.bits.fits)) c.requires.few (omega arith) c.reversed.ensures) in
    rw c.if-upward.false (record {
      right = search (rules, columns-bits);
      left = search (rules, columns-bits);
    })
