use Rattle.std.proofs.Common.{arith, ◌≡◌, ap, length, rules}
use Rattle.std.specs.Prelude.{decimal}
use Rattle.qr_images.proofs.lemmas.texts.{number-digits, number-is}
use Rattle.qr_images.proofs.texts.push_number.Goals as goal

pub returns : goal.returns
returns c =
    let digits : c.as_bytes.result.now ≡ decimal c.args.number = search rules in
    record {
      items = number-is c.args.number _ _ _ _ _ c.push_all.ensures.items c.push_all-2.ensures.items digits;
      len = omega (arith, c.push_all.ensures.len, c.push_all-2.ensures.len, ap length digits, number-digits c.args.number (omega (arith, c.ranges.number)));
    }
