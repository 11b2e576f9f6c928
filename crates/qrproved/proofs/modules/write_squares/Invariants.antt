use Rattle.{qr_matrix.specs.Grid.{colour, light}, qrproved.specs.Modules.byte_of, std.proofs.Common.{◌≡◌, ℕ, ◌+◌, ◌*◌, ◌<◌, ◌≤◌, length, map, slice_index_or}}
use Rattle.qrproved.proofs.modules.write_squares.Given as goal

-- the squares before the current one have been written
abbrev pub invariant-loop-item : goal.invariant-loop-item
invariant-loop-item g l = record {
  area : l.area ≡ l.fn.side * l.fn.side;
  start : l.start ≡ l.item-index * l.area;
  long : length l.modules ≡ length l.fn.modules;
  modules : (k row col : ℕ) → k < l.item-index → row < l.fn.side → col < l.fn.side → slice_index_or l.modules (k * l.area + (row * l.fn.side + col)) 0 ≡ byte_of (colour (slice_index_or (map g.S.HasSquare.grid l.squares) k (light 0)) row col);
  others : (i : ℕ) → l.start ≤ i → slice_index_or l.modules i 0 ≡ slice_index_or l.fn.modules i 0;
}
