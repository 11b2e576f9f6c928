use Rattle.qr_symbol.proofs.lemmas.placement.WalkLemmas.{IsWalked}
use Rattle.qr_symbol.proofs.placement.draw_along_walk.Given as goal

abbrev pub invariant-loop-module : goal.invariant-loop-module
invariant-loop-module l = record {
  can_next : (goal.iterator-loop-module).can_next l.module-iterator;
  is_finite : (goal.iterator-loop-module).is_finite l.module-iterator;
  walked : IsWalked l.fn.version l.codewords l.mask l.fn.matrix l.yielded l.module-iterator l.number l.matrix;
}
