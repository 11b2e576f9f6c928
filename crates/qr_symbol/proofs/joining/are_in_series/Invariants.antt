use Rattle.{qr_symbol.specs.Joining.HaveHeaders, std.proofs.Common.drop}
use Rattle.qr_symbol.proofs.joining.are_in_series.Given as goal

abbrev pub invariant-loop-position : goal.invariant-loop-position
invariant-loop-position l = record {
  here : HaveHeaders l.last l.parity l.position (drop l.position l.contents) → HaveHeaders l.last l.parity 0 l.contents;
  there : HaveHeaders l.last l.parity 0 l.contents → HaveHeaders l.last l.parity l.position (drop l.position l.contents);
}
