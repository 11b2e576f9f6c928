use Rattle.std.proofs.Common.{rules}
use Rattle.qr_scanning.proofs.clean.placed.Goals as goal

pub returns-then-branch-2-clause-placed : goal.returns-then-branch-2-clause-placed
returns-then-branch-2-clause-placed c = rw c.deref-2.ensures.value at c.in_ok-other.ensures.table

pub returns-then-branch-clause-exchanged : goal.returns-then-branch-clause-exchanged
returns-then-branch-clause-exchanged c = λ own _. absurd (own ((rw c.deref.ensures.value at c.in_ok-is_symbol.ensures).0 c.if-branch.true))

pub returns-clause-exchanged : goal.returns-clause-exchanged
returns-clause-exchanged c = λ own other.
    let is = other c.in_ok-other.other.items (rw c.deref-2.ensures.value at c.in_ok-other.ensures.table) in
    let yes = (rw c.deref-3.ensures.value at c.in_ok-is_symbol-2.ensures).1 is in
    search (rules, yes)
