use Rattle.{qr_matrix.specs.Bytes.byte_of, qr_parsing.specs.Steps.Sheet.is_dark_on, std.proofs.Common.{◌≡◌, ℕ, ◌+◌, ◌*◌, ◌<◌, length, slice_index_or}}
use Rattle.qr_parsing.proofs.sheet.write_modules.Given as goal

-- the rows before the current one have been written
abbrev pub invariant-loop-row : goal.invariant-loop-row
invariant-loop-row l = record {
  long : length l.modules ≡ length l.fn.modules;
  start : l.start ≡ l.row * l.side;
  rows : (r c : ℕ) → r < l.row → c < l.side → slice_index_or l.modules (r * l.side + c) 0
      ≡ byte_of (is_dark_on l.sheet.kind l.sheet.width l.sheet.bytes.now l.k (l.margin + r) (l.margin + c));
}
