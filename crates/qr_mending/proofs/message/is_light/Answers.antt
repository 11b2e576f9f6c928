use Rattle.{qr_matrix.specs.BitRow.has, qr_mending.proofs.lemmas.message.LightLemmas.row-light}
use Rattle.std.proofs.{Common.{◌≡◌, sym, ◌∙◌, inl, inr, arith}, lemmas.Bool.cases_lt}
use Rattle.qr_mending.proofs.message.is_light.Goals as goal

pub loop-row-preserved : goal.loop-row-preserved
loop-row-preserved c = λ r k l m. elim (cases_lt r c.loop-row.row) [
  | inl o ↦ c.loop-row.invariant r k o m
  | inr o ↦
      let same : r ≡ c.loop-row.row = omega arith in
      rw same (sym (c.bit_row-bits.ensures.colours k)
      ∙ row-light (has c.bit_row-bits.result) c.bits_from.result c.bits_from-else-bits_from-ne0.result c.bits_from-else-bits_from-ne0-2.result
      c.bits_from.ensures c.bits_from-else-bits_from-ne0.ensures c.bits_from-else-bits_from-ne0-2.ensures
      c.if-bits_from-ne0.false c.if-bits_from-ne0-2.false c.if-bits_from-ne0-3.false k (omega arith))
]
