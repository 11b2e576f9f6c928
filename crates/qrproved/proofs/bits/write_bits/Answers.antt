use Rattle.std.proofs.{Common.{◌≡◌, ℕ, ◌+◌, ◌*◌, ◌∙◌, ap, inl, inr, arith}, lemmas.Bool.cases_lt}
use Rattle.{qr_matrix.specs.Grid.colour, qrproved.{specs.Bits.bit_of, proofs.lemmas.modules.place-in}}
use Rattle.qrproved.proofs.bits.write_bits.Goals as goal

pub loop-row-preserved : goal.loop-row-preserved
loop-row-preserved c =
    let i = c.loop-row.invariant in
    let w = c.write_row.ensures in
    let s = c.side-side.result in
    let row = c.loop-row.row in
    let new = c.write_row.new.bits in
    let side : s ≡ c.args.matrix.now.side = c.side-side.ensures.value in
    let from : c.from-start.result ≡ s = c.from-start.ensures in
    record {
      long = w.long ∙ i.long;
      start = omega (arith, i.start, from);
      modules = λ r x l m. elim (cases_lt r row) [
        | inl a ↦ w.before (r * s + x) (omega (arith, place-in s r x row a m, i.start)) ∙ i.modules r x a m
        | inr b ↦
            let same : r ≡ row = omega arith in
            let rows : r * s ≡ row * s = ap (λ (n : ℕ). n * s) same in
            let place : r * s + x ≡ c.loop-row.start + x = omega (arith, rows, i.start) in
            ap (bit_of new) place ∙ (w.modules x (omega (arith, side)) ∙ ap (λ (n : ℕ). colour c.args.matrix.now n x) (omega (arith, same)))
      ];
      clear = λ k p l m. w.clear k (omega (arith, from, side)) (omega (arith, from, side)) m;
      others = λ j l. w.others j l ∙ i.others j l;
    }
