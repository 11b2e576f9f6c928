use Rattle.std.proofs.{Common.{◌≡◌, ◌+◌, ◌-◌, ◌*◌, ◌<◌, inl, inr, arith, rules}, lemmas.Bool.cases_lt}
use Rattle.qr_matrix.proofs.bytes.write_words.Goals as goal

pub loop-number-preserved : goal.loop-number-preserved
loop-number-preserved c =
    let i = c.loop-number.invariant in
    let s = c.args.start in
    let first = 64 * c.loop-number.number in
    let number : c.from.result ≡ c.loop-number.number = c.from.ensures in
    let at : c.from-in-loop-number.result ≡ first = c.from-in-loop-number.ensures in
    record {
      long = search rules;
      modules = λ col l m. elim (cases_lt col first) [
        | inl a ↦ search rules
        | inr b ↦
            let k = col - first in
            let few : k < c.min-count.result = omega (arith, c.min-count.ensures, c.side.ensures.value) in
            let e : s + col ≡ s + c.from-in-loop-number.result + k = omega arith in
            search rules
      ];
      others = search rules;
    }
