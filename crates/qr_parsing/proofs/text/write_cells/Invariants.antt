use Rattle.{qr_parsing.specs.Steps.Text.cells_in, std.proofs.Common.{◌≡◌, ◌≤◌, length, take}}
use Rattle.qr_parsing.proofs.text.write_cells.Given as goal

-- the cells among the bytes before the current one have been written
abbrev pub invariant-loop-byte : goal.invariant-loop-byte
invariant-loop-byte l = record {
  long : length l.cells ≡ length l.fn.cells;
  count : l.count ≤ l.byte-index;
  cells : take l.count l.cells ≡ cells_in (take l.byte-index l.text);
}
