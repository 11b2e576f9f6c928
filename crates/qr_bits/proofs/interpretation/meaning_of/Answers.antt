use Rattle.{qr_bits.specs.Interpretation.{meant_bytes, eci_changes}, std.proofs.{Common.{arith, rules, append-nil}, lemmas.{Grind.common_steps, List.drop_all}}}
use Rattle.qr_bits.proofs.interpretation.meaning_of.Goals as goal

pub loop-item-preserved : goal.loop-item-preserved
loop-item-preserved c = grind (arith, common_steps)

pub returns-clause-bytes : goal.returns-clause-bytes
unfolding meant_bytes
returns-clause-bytes c = search (rules, append-nil, drop_all)

pub returns-clause-ecis : goal.returns-clause-ecis
unfolding eci_changes
returns-clause-ecis c = search (rules, append-nil, drop_all)
