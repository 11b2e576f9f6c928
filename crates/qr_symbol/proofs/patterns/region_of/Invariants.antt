use Rattle.{qr_layout.specs.{Rectangles.is_in_rectangle, Steps.Rectangles.IsInside, Version.side_of}, qr_matrix.specs.Grid.colour}
use Rattle.{qr_symbol.specs.Steps.Patterns.IsOver, std.{proofs.Common.{take, false}, specs.List.{list_any, All}}}
use Rattle.qr_symbol.proofs.patterns.region_of.Given as goal

abbrev pub invariant-loop-rectangle : goal.invariant-loop-rectangle
invariant-loop-rectangle l = record {
  inside : All (IsInside (side_of l.fn.version)) l.rectangle-items;
  so_far : IsOver (side_of l.fn.version) (λ r c. list_any (is_in_rectangle r c) (take l.rectangle-index l.rectangle-items)) (λ _ _.
      false) (colour l.initial.region) l.region;
}
