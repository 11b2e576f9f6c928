use Rattle.std.proofs.{Common.{◌≤◌, arith}, Math.Nat.mul-le-mul_right}
use Rattle.qrproved.proofs.bits.bits_len.Goals as goal

pub returns-clause-most : goal.returns-clause-most
returns-clause-most c =
    let side = c.args.side in
    let few : side ≤ 255 = omega arith in
    omega (arith, mul-le-mul_right side few, c.area.ensures)
