use Rattle.{qr_parsing.specs.Steps.Svg.{IsPath, is_in_boxes, path_in}, std.proofs.Common.{◌≡◌, ℕ, ◌<◌, ◌≤◌, ◌-◌, ◌/◌, ◌%◌, cond, List, drop, length, get_or}}
use Rattle.qr_parsing.proofs.svg.paint_all.Given as goal

-- if the boxes that are left are painted too, all boxes are painted
abbrev pub invariant-boxes : goal.invariant-boxes
invariant-boxes l = record {
  within : l.at ≤ length l.text;
  painted : (numbers : List ℕ) → IsPath numbers (path_in l.text) → (left : List ℕ) × IsPath left (drop l.at l.text)
      × ((i : ℕ) → i < length l.bytes → cond (is_in_boxes numbers (i / l.width) (i % l.width)) 1 (get_or l.fn.bytes i 0)
      ≡ cond (is_in_boxes left (i / l.width) (i % l.width)) 1 (get_or l.bytes i 0));
}

abbrev pub decreases-boxes : goal.decreases-boxes
decreases-boxes l = length l.text - l.at
