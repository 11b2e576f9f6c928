use Rattle.{qr_layout.specs.declared.region.Module.Module, qr_matrix.specs.Grid.colour, qr_symbol.proofs.lemmas.words.BitLemmas.set-bit}
use Rattle.std.proofs.{Common.{rules, ◌≡◌, Bool, not, false, inl, inr, ap, ◌∙◌, arith}, lemmas.Bool.{cases_lt, Decides.nat_tests}}
use mathlib.Core.Bool.{beq}
use Rattle.qr_symbol.proofs.reading.has_format.Goals as goal

same : (a b x : Bool) → not (beq a x) ≡ false → a ≡ b → b ≡ x
same a b x e f = grind (arith, nat_tests)

pub loop-i-preserved : goal.loop-i-preserved
loop-i-preserved c =
    let word = c.from-word.result in let here = same _ _ _ (rw (set-bit word c.loop-i.i) at c.if-dark-word.false) (c.dark.ensures ∙ ap (λ (p : Module). colour c.args.matrix.now p.row p.col) c.format_place-place.ensures.place) in
    λ k l. elim (cases_lt k c.loop-i.i) [
      | inl m ↦ c.loop-i.invariant k m
      | inr m ↦ search rules
    ]

pub returns-then-dark-word : goal.returns-then-dark-word
returns-then-dark-word c = search (rules, set-bit)
