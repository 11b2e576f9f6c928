use Rattle.qr_logos.proofs.lemmas.logo.MarkLemmas.{IsMarking}
use Rattle.qr_logos.proofs.logo.mark_covered.Given as goal

abbrev pub invariant-loop-module : goal.invariant-loop-module
invariant-loop-module l = record {
  can_next : (goal.iterator-loop-module).can_next l.module-iterator;
  is_finite : (goal.iterator-loop-module).is_finite l.module-iterator;
  marking : IsMarking l.fn.version l.fn.side l.yielded l.module-iterator l.number l.marks;
}
