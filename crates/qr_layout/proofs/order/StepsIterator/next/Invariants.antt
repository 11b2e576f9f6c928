use Rattle.{qr_layout.specs.{Steps.Order.{IsCursor, to_come, left_of}, Version.side_of}, std.proofs.Common.{◌≡◌, ◌≤◌}}
use Rattle.qr_layout.proofs.order.StepsIterator.next.Given as goal

abbrev pub invariant-loop-self : goal.invariant-loop-self
invariant-loop-self l = record {
  same_version : l.self-inside.version ≡ l.initial.self-inside.version;
  least : 1 ≤ l.self-inside.version;
  most : l.self-inside.version ≤ 40;
  cursor : IsCursor l.self-inside.version l.self-inside.cursor;
  same_rest : to_come l.self-inside.version l.self-inside.cursor ≡ to_come l.initial.self-inside.version l.initial.self-inside.cursor;
}

abbrev pub decreases-loop-self : goal.decreases-loop-self
decreases-loop-self l = left_of (side_of l.self-inside.version) l.self-inside.cursor
