use Rattle.std.proofs.{lemmas.Bool.{false≢true, ne_eqb, Decides.nat_tests}, Common.{append_assoc, rules}}
use Rattle.qr_bits.{proofs.lemmas.{run_state.BestLemmas.same-rank, segmentation.BackLemmas.append_mode-last}, specs.Steps.Segmentation.append_mode}
use Rattle.qr_bits.proofs.segmentation.next_run.Goals as goal

pub returns-then-eq : goal.returns-then-eq
unfolding append_mode
returns-then-eq c = search (rules, append_mode-last, nat_tests)

pub returns : goal.returns
unfolding append_mode
returns c = search (rules, append_mode-last, ne_eqb, same-rank, append_assoc, false≢true)
