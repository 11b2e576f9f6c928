-- Drawing in the transposed square, where the two columns of a strip are rows.
use Rattle.qr_layout.{proofs.Facts.region-symmetric, specs.{Region.is_in_region, Version.side_of, declared.strips.Strip.Strip}}
use Rattle.qr_matrix.{proofs.Facts.colour-square, specs.{BitRow.has, Grid.{Grid, colour, with_row, IsSquare}}}
use Rattle.qr_symbol.proofs.lemmas.placement.{PlacementLemmas.{square-is, IsStripDrawn}, ColumnLemmas.row-small}
use Rattle.qr_symbol.specs.{Steps.{Placement.{number_at, region_grid, AreDrawn}, Spans.row_of}, declared.spans.Columns.Columns}
use Rattle.std.proofs.{lemmas.Bool.Decides.nat_tests, Common.{◌≡◌, ℕ, ◌-◌, ◌<◌, ◌≤◌, Bool, not, cond, ◌&&◌, List, refl, ◌∙◌, ap, arith}}

-- the square of the region, read with row and column exchanged, says whether a place is in the region
pub region-across : (v : ℕ) (g : Grid) (row col : ℕ) → g ≡ region_grid v → row < side_of v → col < side_of v → colour g col row ≡ is_in_region v row col
region-across v g row col e k l = search (arith, colour-square, region-symmetric)

-- the colours of the two rows, and of the others
two-colours : (g : Grid) (a b : ℕ) (f h : ℕ → Bool) (r c : ℕ) → r < g.side → c < g.side → (a ≡ b
    → ⊥) → (r ≡ a → colour (with_row (with_row g a f) b h) r c ≡ f c) × (r ≡ b
    → colour (with_row (with_row g a f) b h) r c ≡ h c) × ((r ≡ a → ⊥) → (r ≡ b → ⊥)
    → colour (with_row (with_row g a f) b h) r c ≡ colour g r c)
two-colours g a b f h r c l m n = grind (arith, colour-square, nat_tests)

-- a module in the region gets its bit also if it was made light before
drawn-light : (t p q w z : Bool) → z ≡ cond t w q → q ≡ (p && not t) → z ≡ cond t w p
drawn-light t p q w z e f = grind (arith, nat_tests)

-- a strip is drawn if its columns are drawn, in which the region was made light before
pub strip-drawn : (v : ℕ) (cw : List ℕ) (x : Strip) (first next : ℕ) (g h : Grid) (old new : Columns)
    → IsSquare (side_of v) g → 1 ≤ x.right → x.right < side_of v
    → h ≡ with_row (with_row g x.right (has new.right)) (x.right - 1) (has new.left)
    → ((row : ℕ) → row < side_of v → (has old.right row ≡ (colour g x.right row && not (is_in_region v row x.right))) × (has old.left row ≡ (colour g (x.right - 1) row && not (is_in_region v row (x.right - 1)))))
    → next ≡ number_at v x first (side_of v) → AreDrawn v cw x first 0 (side_of v) old new
    → IsStripDrawn v cw x first g next h
strip-drawn v cw x first next g h old new o least most e light number d =
    let side = ap (λ (z : Grid). z.side) o in record {
      number = number;
      square = search (arith, square-is);
      drawn = λ j l.
          let row = row_of (side_of v) x j in let small = (row-small x (side_of v) j l).0 in
          let bits = d.drawn j (omega arith) (omega arith) in
          rw e (((two-colours g _ _ _ _ _ row (omega arith) (omega arith) (λ i. omega arith)).0 refl) ∙ drawn-light _ _ _ _ _ bits.0 (light row small).0, ((two-colours g _ _ _ _ _ row (omega arith) (omega arith) (λ i. omega arith)).1 refl) ∙ drawn-light _ _ _ _ _ bits.1 (light row small).1);
      kept = search (arith, two-colours);
    }
