use Rattle.std.proofs.{Common.{length-drop, rules, ◌≡◌, ◌-◌, ◌+◌, get_or, length, arith}, lemmas.{List.{drop_more, drop_all}, Nat.xor_comm}}
use Rattle.qr_mending.proofs.lemmas.sums.{digits-none, powers-product}
use Rattle.qr_mending.proofs.sums.sixteen_syndromes.Goals as goal

pub loop-j-init : goal.loop-j-init
loop-j-init c = search (rules, digits-none, drop_all)

pub loop-j-preserved : goal.loop-j-preserved
loop-j-preserved c = λ i l.
    let r = c.args.remainder.now in
    let j = c.loop-j.j in
    let at = c.args.first + i in
    let exponent = length r - j in
    let x = get_or r (j - 1) 0 in
    let is : length r - 1 - (j - 1) ≡ exponent = omega arith in
    search (rules, powers-product, xor_comm, drop_more, length-drop)
