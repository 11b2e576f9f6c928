use Rattle.{qrproved.specs.Drawing.squares_of_bytes, std.proofs.Common.{◌≡◌, ◌*◌, ◌-◌, ◌≤◌, ◌++◌, length}}
use Rattle.qrproved.proofs.drawing.squares_of.Given as goal

-- the squares that have been read, followed by those that are still to be read, are all squares
abbrev pub invariant-loop : goal.invariant-loop
invariant-loop l = record {
  room : (l.count - l.counter) * (l.side * l.side) ≤ length l.rest;
  squares : l.squares.items ++ squares_of_bytes l.side (l.count - l.counter) l.rest ≡ squares_of_bytes l.side l.count l.modules;
}
