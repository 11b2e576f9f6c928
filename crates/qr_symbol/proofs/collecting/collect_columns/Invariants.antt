use Rattle.{qr_layout.specs.Version.side_of, qr_symbol.specs.Steps.{Collecting.bits_in_rows, Spans.AreSpansOf, Words.Appends}}
use Rattle.qr_symbol.proofs.collecting.collect_columns.Given as goal

abbrev pub invariant-loop-span : goal.invariant-loop-span
invariant-loop-span l = record {
  can_next : (goal.iterator-loop-span).can_next l.span-iterator;
  is_finite : (goal.iterator-loop-span).is_finite l.span-iterator;
  strip : AreSpansOf (side_of l.fn.version) l.fn.strip l.region 28 l.span-iterator;
  bits : Appends (bits_in_rows (side_of l.fn.version) l.fn.strip l.region l.columns 0 l.span-iterator.passed) l.fn.bits l.bits;
}
