use Rattle.{qr_layout.specs.Version.side_of, qr_symbol.proofs.lemmas.placement.SpanDrawnLemmas.AreDrawnTo, qr_symbol.specs.Steps.Spans.AreSpansOf}
use Rattle.qr_symbol.proofs.placement.draw_columns.Given as goal

abbrev pub invariant-loop-span : goal.invariant-loop-span
invariant-loop-span l = record {
  can_next : (goal.iterator-loop-span).can_next l.span-iterator;
  is_finite : (goal.iterator-loop-span).is_finite l.span-iterator;
  strip : AreSpansOf (side_of l.fn.version) l.fn.strip l.region 32 l.span-iterator;
  drawn : AreDrawnTo l.fn.version l.codewords l.fn.strip l.fn.first l.span-iterator.passed l.number l.fn.columns l.columns;
}
