use Rattle.std.proofs.{Common.{rules, ◌≡◌, ℕ, ◌+◌, ◌*◌, ◌%◌, ◌^◌, ◌∙◌, sym, arith}, Math.Nat.mod-lt, lemmas.{List.length-take, Nat.pow_pos}}
use Rattle.qr_bits.{proofs.Facts.{length-field, power-fits}, specs.Bits.field}
use Rattle.qr_symbol.proofs.lemmas.words.JoinLemmas.{filled-more, on-error, push-made, pushed, codewords-joined, codewords-small, joined-small, joined-whole}
use Rattle.qr_symbol.proofs.words.Collector.push_bits.Goals.{After-from}
use Rattle.qr_symbol.proofs.words.Collector.push_bits.Goals as goal

-- the bits before and the new ones, as a number
whole : (c : After-from) → c.from.result * 2 ^ c.args.count % 18446744073709551616 + c.args.bits % (1 * 2 ^ c.args.count % 18446744073709551616)
    ≡ c.self.inside.rest * 2 ^ c.args.count + c.args.bits % 2 ^ c.args.count
whole c = search (rules, power-fits, joined-whole)

pub overflow_add-all : goal.overflow_add-all
overflow_add-all c =
    let w = c.self.inside in let n = c.args.count in
    rw (whole (goal.at.overflow_add-all c).After-from) (record { fits = omega (arith, joined-small w.width n w.rest (c.args.bits % 2 ^ n) 64 c.self.invariant.1 (mod-lt c.args.bits (pow_pos n)) (omega (arith, c.self.invariant.0, c.requires.few))) })

pub invariant_of-self : goal.invariant_of-self
invariant_of-self c =
    let w = c.self.inside in let left = (w.width + c.args.count) % 8 in
    rw (power-fits left 7 18446744073709551616 (omega arith) (omega arith)) (
      omega arith,
      mod-lt _ (pow_pos left),
      codewords-small _ w.whole.items _ _ _ _ c.to_be_bytes-codewords.ensures c.extend_from_slice.ensures.items c.self.invariant.2,
    )

pub returns : goal.returns
returns c =
    let w = c.self.inside in let n = c.args.count in let left = (w.width + n) % 8 in
    rw (power-fits left 7 18446744073709551616 (omega arith) (omega arith))
    (rw (← c.self.view_is) (pushed _ _ _ _ _ _ _ (search (rules, push-made, whole, codewords-joined)) c.extend_from_slice.ensures.capacity (λ f. let full = on-error _ c.extend_from_slice.result c.extend_from_slice.ensures.full (sym c.is_err.ensures.value ∙ f) in filled-more w.whole.items w.width w.rest (field n c.args.bits) _ (omega (arith, full, length-field n c.args.bits, length-take {A = ℕ}, c.from-2.ensures)))))
