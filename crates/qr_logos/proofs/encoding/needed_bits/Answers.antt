use Rattle.qr_bits.proofs.Facts.{bits-most, covers-all, least-most, least_fits}
use Rattle.qr_logos.proofs.lemmas.encoding.{needed}
use Rattle.std.proofs.Common.{arith}
use Rattle.qr_logos.proofs.encoding.needed_bits.Goals as goal

pub bit_len-requires : goal.bit_len-requires
bit_len-requires c =
    let is = c.in_ok-segmented.ensures.ok in
    let all = covers-all _ _ (least_fits _ _ _ _ _ _ is).0 in
    rw c.deref.ensures.value (record {
      nonempty = all.0;
      short = omega (arith, all.1, least-most _ _ _ _ _ _ is);
    })

pub overflow_add-result : goal.overflow_add-result
overflow_add-result c =
    let is = c.in_ok-segmented.ensures.ok in
    let all = covers-all _ _ (least_fits _ _ _ _ _ _ is).0 in
    omega (arith, rw c.deref.ensures.value at c.bit_len.ensures, bits-most c.args.version _ all.0, all.1, least-most _ _ _ _ _ _ is, c.interpretation_bits.ensures.most)

pub returns-clause-bits : goal.returns-clause-bits
returns-clause-bits c =
    rw (c.interpretation_bits.ensures.value, c.bit_len.ensures, c.deref.ensures.value)
    (needed c.args.version c.args.writing.rule c.args.writing.interpretation c.args.input.now _ _ c.in_ok-segmented.ensures.ok)
