use Rattle.std.proofs.Common.{arith}
use Rattle.qr_images.proofs.lemmas.checksums.AdlerLemmas.{sums-bounded}
use Rattle.qr_images.proofs.checksums.with_bytes.Goals as goal

pub invariant_of-result : goal.invariant_of-result
invariant_of-result c = record {
  short = c.requires;
  small = omega (arith, c.args.line.small, c.args.more.small);
  smalls = rw (c.from.ensures, c.from-2.ensures) (sums-bounded c.args.line.len c.args.more.len c.args.line.sum c.args.line.sums c.args.more.sums c.args.line.small c.args.line.smalls c.args.more.smalls);
}
