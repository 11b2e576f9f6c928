use Rattle.{qr_matrix.{proofs.lemmas.bit_row.FirstLemmas.{passing-first, passing-none}, specs.BitRow.has}, std.proofs.Common.{rules, arith}}
use Rattle.qr_matrix.proofs.bit_row.BitRow.take_first.Goals as goal

pub returns-then-index : goal.returns-then-index
returns-then-index c = search (rules, passing-none, has)

pub returns : goal.returns
returns c = passing-first (has c.args.self.now) (has c.clear.new.self) c.first-index.result 0 192 (omega arith) (omega arith)
    c.first-index.ensures.before (c.first-index.ensures.here (omega arith)) c.clear.ensures
