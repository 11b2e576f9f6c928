use Rattle.{qr_matrix.specs.Grid.square, qr_parsing.specs.Steps.Sheet.is_dark_on, std.{proofs.Common.{◌≡◌, ◌+◌, map}, specs.List.range_with_len}}
use Rattle.qr_parsing.proofs.sheet.squares_of.Given as goal

-- the squares before the current one have been made of the sheet
abbrev pub invariant-loop-k : goal.invariant-loop-k
invariant-loop-k l = l.squares.items ≡ map (λ k. square l.side (λ r c. is_dark_on l.sheet.kind l.sheet.width l.sheet.bytes.now k (l.margin + r) (l.margin + c))) (range_with_len 0 l.k)
