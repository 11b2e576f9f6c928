use Rattle.{qr_bits.proofs.Facts.bool_byte-bit, qr_mending.{proofs.lemmas.format.{bits-few, bits-more}, specs.Format.copy_bit}}
use Rattle.std.proofs.Common.{rules, ◌≡◌, ◌-◌, ◌==◌, ◌∙◌, ap, arith}
use Rattle.qr_mending.proofs.format.CopyBits.read.Goals as goal

pub loop-i-preserved : goal.loop-i-preserved
loop-i-preserved c =
    let g = c.args.scan.now.matrix.now in
    let u = c.args.scan.now.unknown.now in
    let i = c.loop-i.i in
    let copy = c.args.copy in
    let place = c.place-place.ensures.place in
    let h = c.loop-i.invariant in
    let one = bool_byte-bit c.dark.result in
    let other = bool_byte-bit c.dark-in-loop-i.result in
    let dark : (c.from.result == 1) ≡ copy_bit copy g (i - 1) =
    ap (λ t. t == 1) c.from.ensures ∙ (one.1 ∙ cc) in
    let unread : (c.from-in-loop-i.result == 1) ≡ copy_bit copy u (i - 1) = search rules in
    record {
      few = bits-few c.loop-i.dark c.from.result i (omega arith) (omega arith) (omega arith) h.few;
      few_unread = bits-few c.loop-i.unread c.from-in-loop-i.result i (omega arith) (omega arith) (omega arith) h.few_unread;
      dark = λ k l. bits-more (copy_bit copy g) c.loop-i.dark c.from.result i k (omega arith) (omega arith) dark h.dark l;
      unread = λ k l. bits-more (copy_bit copy u) c.loop-i.unread c.from-in-loop-i.result i k (omega arith) (omega arith) unread h.unread l;
    }
