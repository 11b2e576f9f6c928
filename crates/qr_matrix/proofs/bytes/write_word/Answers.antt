use Rattle.std.proofs.Common.{rules, ◌≡◌, ◌+◌, ◌-◌, ◌<◌, ◌≤◌, length, slice_index_or, ap, ◌∙◌, inl, inr, arith}
use Rattle.{std.proofs.lemmas.Bool.cases_lt, qr_matrix.specs.{BitRow.has_bit, Bytes.byte_of}}
use borrow.Rule.Slice.PartMut.{put_mid}
use Rattle.qr_matrix.proofs.lemmas.{bit_row.PlaceLemmas.{has_bit-shr, low-bits}, bytes.{part-long, part-here, part-others}}
use Rattle.qr_matrix.proofs.bytes.write_word.Goals as goal

pub loop-next-preserved : goal.loop-next-preserved
loop-next-preserved c =
    let i = c.loop-next.invariant in
    let s = c.args.at in
    let a = c.loop-next.next in
    let w = a + 8 - a in
    let xs = c.loop-next.bytes in
    let ys = c.copy_from_slice.new.self in
    let bits = c.loop-next.rest in
    let held = c.copy_from_slice.ensures.after in
    let many : length ys ≡ w = let e = ap length held in omega arith in
    let long = i.long in
    let room : a + w ≤ length xs = omega (arith, c.requires.room, i.within) in
    record {
      begun = omega (arith, i.begun);
      within = omega arith;
      long = part-long a w xs ys room many ∙ i.long;
      rest = λ k.
          let e : a - s + (k + 8) ≡ a + 8 - s + k = omega (arith, i.begun) in
          has_bit-shr bits 8 k ∙ (i.rest (k + 8) ∙ ap (has_bit c.args.word) e);
      written = λ k l. elim (cases_lt (s + k) a) [
        | inl m ↦ search (rules, part-others)
        | inr m ↦
            let j = s + k - a in
            let n : j < 8 = omega arith in
            let e : s + k ≡ a + j = omega arith in
            let f : a - s + j ≡ k = omega (arith, i.begun) in
            ap (λ n. slice_index_or (put_mid a w xs ys) n 0) e
            ∙ (part-here a w xs ys room many j (omega arith)
            ∙ (ap (λ l. slice_index_or l j 0) held
            ∙ (c.eight_bytes.ensures j n ∙ ap byte_of (low-bits 8 bits j n ∙ (i.rest j ∙ ap (has_bit c.args.word) f)))))
      ];
      others = search (rules, part-others);
    }
