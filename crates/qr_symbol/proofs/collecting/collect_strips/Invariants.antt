use Rattle.qr_layout.{proofs.Facts.Inside, specs.{Order.{IsOrder, in_region_of}, Strips.places_of, Version.{side_of, total_codewords_of}}}
use Rattle.{qr_symbol.specs.Steps.{Collecting.colour_across, Words.HasCollected}, std.{proofs.Common.{◌++◌, map}, specs.List.All}}
use Rattle.qr_symbol.proofs.collecting.collect_strips.Given as goal

abbrev pub invariant-loop-strip : goal.invariant-loop-strip
invariant-loop-strip l = record {
  can_next : (goal.iterator-loop-strip).can_next l.strip-iterator;
  is_finite : (goal.iterator-loop-strip).is_finite l.strip-iterator;
  inside : All (Inside l.fn.version) l.strip-iterator;
  whole : IsOrder l.fn.version (in_region_of l.fn.version (places_of (side_of l.fn.version) (l.yielded ++ l.strip-iterator)));
  bits : HasCollected (total_codewords_of l.fn.version) (map (colour_across l.across) (in_region_of l.fn.version (places_of (side_of l.fn.version) l.yielded))) l.bits;
}
