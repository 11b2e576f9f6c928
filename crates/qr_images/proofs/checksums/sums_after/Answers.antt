use Rattle.std.proofs.Common.{arith, ◌≤◌, ◌*◌, ◌-◌, ◌/◌}
use Rattle.qr_images.specs.Image.{repeated}
use Rattle.qr_images.proofs.lemmas.{checksums.AdlerLemmas.{lines-add, same-sums}, lines.product-in}
use Rattle.qr_images.proofs.checksums.sums_after.Goals as goal

pub overflow_add-sums-3 : goal.overflow_add-sums-3
overflow_add-sums-3 c =
    let n = c.from-times.result in
    let len = c.from-len.result in
    let sum = c.from-sum.result in
    let line = c.args.line in
    let low = c.args.sums.low in
    let many : n ≤ 10000 = omega (arith, c.from-times.ensures, c.requires.few) in
    let long : len ≤ 4714 = omega (arith, c.from-len.ensures, line.short) in
    let great : sum ≤ 1202070 = omega (arith, c.from-sum.ensures, line.small, line.short) in
    let squares : line.len * line.len ≤ 4714 * 4714 = product-in line.len line.len 4714 4714 line.short line.short in
    let one : n * len ≤ 10000 * 4714 = product-in n len 10000 4714 many long in
    let two : n * len * low ≤ 10000 * 4714 * 17179869184 = product-in (n * len) low (10000 * 4714) 17179869184 one (omega (arith, c.args.sums.low_in)) in
    let three : n * line.sums ≤ 10000 * (255 * (4714 * 4714)) = product-in n line.sums 10000 (255 * (4714 * 4714)) many (omega (arith, line.smalls)) in
    let four : len * sum ≤ 4714 * 1202070 = product-in len sum 4714 1202070 long great in
    let five : n * (n - 1) ≤ 10000 * 10000 = product-in n (n - 1) 10000 10000 many (omega arith) in
    let six : len * sum * (n * (n - 1) / 2) ≤ 4714 * 1202070 * 50000000 = product-in (len * sum) (n * (n - 1) / 2) (4714 * 1202070) 50000000 four (omega arith) in
    omega (arith, c.args.sums.high_in)

pub returns : goal.returns
returns c = λ bytes is.
    same-sums _ _ _ _ _ _ (repeated c.args.times bytes) c.below.ensures.same c.below-2.ensures.same
    (rw (c.from-len.ensures, c.from-sum.ensures, c.from-times.ensures)
    (lines-add c.args.sums.low c.args.sums.high c.args.times c.args.line.len c.args.line.sum c.args.line.sums bytes is))
