use Rattle.std.proofs.{Common.{◌≡◌, ℕ, ◌+◌, ◌-◌, ◌*◌, ◌<◌, ◌≤◌, ◌∙◌, ap, sym, inl, inr, arith}, lemmas.Bool.cases_lt}
use Rattle.{qr_matrix.specs.{BitRow.has_bit, Grid.colour}, qrproved.specs.Bits.bit_of}
use Rattle.qrproved.proofs.bits.write_row.Goals as goal

pub overflow_add-start : goal.overflow_add-start
overflow_add-start c = omega (arith, c.requires.room, c.requires.short, c.from-in-loop-col.ensures, c.side-side.ensures.value)

pub loop-col-preserved : goal.loop-col-preserved
loop-col-preserved c =
    let i = c.loop-col.invariant in
    let put = c.put_eight.ensures in
    let col = c.loop-col.col in
    let start = c.args.start in
    let new = c.put_eight.new.bits in
    let from : c.from-in-loop-col.result ≡ col = c.from-in-loop-col.ensures in
    let side : c.side-side.result ≡ c.args.matrix.now.side = c.side-side.ensures.value in
    let at = start + c.from-in-loop-col.result in
    let bit : (j : ℕ) → j < 8 → has_bit c.reversed-eight.result (7 - j) ≡ colour c.args.matrix.now c.args.row (col + j) = λ j l.
    let turned : 7 - (7 - j) ≡ j = omega arith in
    c.reversed-eight.ensures (7 - j) (omega arith) ∙ (ap (has_bit c.eight.result) turned ∙ c.eight.ensures j l) in
    let here : (k j : ℕ) → k ≡ at + j → j < 8 → k < 8 * c.args.len → bit_of new k ≡ colour c.args.matrix.now c.args.row (col + j) = λ k j e l m.
    ap (bit_of new) e ∙ (put.here j l (omega arith) ∙ bit j l) in
    record {
      long = put.long ∙ i.long;
      whole = omega (arith, i.whole);
      within = omega arith;
      before = λ k l. put.before k (omega arith) ∙ i.before k l;
      modules = λ x l m. elim (cases_lt x col) [
        | inl a ↦ put.before (start + x) (omega (arith, from)) ∙ i.modules x a m
        | inr b ↦
            let there : col + (x - col) ≡ x = omega arith in
            here (start + x) (x - col) (omega (arith, from)) (omega arith) (omega (arith, side, c.requires.room))
            ∙ ap (colour c.args.matrix.now c.args.row) there
      ];
      clear = λ k h l m. elim (cases_lt k (at + 8)) [
        | inl a ↦
            let far : start + c.side-side.result ≤ k = elim h [
              | inl x ↦ absurd (omega (arith, from))
              | inr y ↦ y
            ] in
            let j = k - at in
            here k j (omega (arith, from)) (omega arith) m
            ∙ (ap (λ (n : ℕ). colour c.args.matrix.now n (col + j)) (sym c.from.ensures) ∙ (sym (c.bit_row.ensures.colours (col + j)) ∙ c.bit_row.ensures.past (col + j) (omega (arith, from, side))))
        | inr b ↦ put.after k b (omega (arith, from)) m
      ];
      others = λ j l. put.others j l ∙ i.others j l;
    }
