use Rattle.{example_label.specs.Label.character_of, qr_matrix.specs.Grid.colour, std.{proofs.Common.{◌≡◌, ◌++◌, map}, specs.List.range_with_len}}
use Rattle.example_label.proofs.push_line.Given as goal

-- the characters of the modules before the current one have been added
abbrev pub invariant-loop-col : goal.invariant-loop-col
invariant-loop-col l = l.text.items ≡ l.fn.text.items ++ map (λ col. character_of (colour l.matrix l.row col)) (range_with_len 0 l.col)
