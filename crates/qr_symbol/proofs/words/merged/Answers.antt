use Rattle.{qr_matrix.proofs.Facts.has_bit-shr, std.proofs.Common.{rules, ◌≡◌, ◌+◌, ◌-◌, ◌*◌, arith}}
use Rattle.qr_symbol.proofs.words.merged.Goals as goal

pub returns-else-upward : goal.returns-else-upward
returns-else-upward c = record {
  right = λ j l.
      let n = c.args.count in let p = 2 * (n - 1 - j) + 1 in let w = c.interleaved-else-upward.result in
      let e : 63 - (p + (64 - 2 * n)) ≡ 2 * j = omega arith in
      search (rules, has_bit-shr);
  left = λ j l.
      let n = c.args.count in let p = 2 * (n - 1 - j) in let w = c.interleaved-else-upward.result in
      let e : 63 - (p + (64 - 2 * n)) ≡ 2 * j + 1 = omega arith in
      search (rules, has_bit-shr);
}
