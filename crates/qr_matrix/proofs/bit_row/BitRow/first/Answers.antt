use Rattle.qr_matrix.{proofs.lemmas.bit_row.FirstLemmas.{first-low, first-middle, first-high, first-none}, specs.BitRow.{has, bit_row_number}}
use Rattle.std.proofs.Common.{rules, get_or, refl, arith}
use Rattle.qr_matrix.proofs.bit_row.BitRow.first.Goals as goal

pub returns-then-a-ne0-clause-before : goal.returns-then-a-ne0-clause-before
unfolding has bit_row_number
returns-then-a-ne0-clause-before c = let l = c.self.inside.0 in rw (← c.self.view_is) ((first-low (get_or l 0 0) (get_or l 1 0) (get_or l 2 0) _ (omega (arith, c.if-a-ne0.true)) (omega arith) refl).1.before)

pub returns-then-a-ne0-clause-here : goal.returns-then-a-ne0-clause-here
unfolding has bit_row_number
returns-then-a-ne0-clause-here c = search (rules, first-low, get_or)

pub returns-then-a-ne0-2-clause-before : goal.returns-then-a-ne0-2-clause-before
unfolding has bit_row_number
returns-then-a-ne0-2-clause-before c = let l = c.self.inside.0 in rw (← c.self.view_is) ((first-middle (get_or l 0 0) (get_or l 1 0) (get_or l 2 0) _ c.if-a-ne0.false (omega (arith, c.if-a-ne0-2.true)) (omega arith) refl).1.before)

pub returns-then-a-ne0-2-clause-here : goal.returns-then-a-ne0-2-clause-here
unfolding has bit_row_number
returns-then-a-ne0-2-clause-here c = search (rules, first-middle, get_or)

pub returns-then-a-ne0-3-clause-before : goal.returns-then-a-ne0-3-clause-before
unfolding has bit_row_number
returns-then-a-ne0-3-clause-before c = let l = c.self.inside.0 in rw (← c.self.view_is) ((first-high (get_or l 0 0) (get_or l 1 0) (get_or l 2 0) _ c.if-a-ne0.false c.if-a-ne0-2.false (omega (arith, c.if-a-ne0-3.true)) (omega arith) refl).1.before)

pub returns-then-a-ne0-3-clause-here : goal.returns-then-a-ne0-3-clause-here
unfolding has bit_row_number
returns-then-a-ne0-3-clause-here c = search (rules, first-high, get_or)

pub returns-clause-before : goal.returns-clause-before
unfolding has bit_row_number
returns-clause-before c = search (rules, first-none, get_or)
