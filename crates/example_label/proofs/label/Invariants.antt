use Rattle.{std.{proofs.Common.◌≡◌, specs.List.{flat_map, range_with_len}}, example_label.specs.Label.line_of_row}
use Rattle.example_label.proofs.label.Given as goal

-- the lines of the rows before the current one have been added
abbrev pub invariant-loop-row : goal.invariant-loop-row
invariant-loop-row l = l.text.items ≡ flat_map (line_of_row l.symbol.matrix) (range_with_len 0 l.row)
