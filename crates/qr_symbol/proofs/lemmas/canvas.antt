-- The function patterns of a canvas, which stay while codewords are drawn, and the mask of the least penalty.
use Rattle.qr_layout.{proofs.Facts.{below, below-at, region-symmetric, role-symmetric}, specs.{Version.side_of, declared.level.Level.Level}}
use Rattle.qr_matrix.proofs.Facts.{same-same, square-same, colour-square, colour-transposed}
use Rattle.qr_matrix.specs.{BitRow.has_bit, Grid.{is_same, Grid, square, colour, transposed}}
use Rattle.qr_symbol.proofs.lemmas.placement.PlacementLemmas.{by_test, inside, outside, square-is, masked-all}
use Rattle.qr_symbol.specs.{Steps.{Canvas.HasPatterns, Patterns.{fixed_colour, paint_of, symmetric_format}}, Choice.{IsFirstLeast, IsMask}, Symbol.grid_of}
use Rattle.qr_symbol.specs.{Steps.Placement.{placed_colour, unmasked_grid, masked_grid, masked_penalty, region_grid}, declared.canvas.Canvas.Canvas}
use Rattle.std.proofs.Common.{◌≡◌, ℕ, ◌<◌, ◌≤◌, true, eqb, List, refl, ◌∙◌, arith, ap, subst}

-- just bit 7 of the symmetric format information is 1, computed
just-seven : below 15 (λ i. is_same (has_bit symmetric_format i) (eqb i 7)) ≡ true
unfolding has_bit
just-seven = refl

-- the colours outside the region are the same with row and column exchanged
paint-symmetric : (v r c : ℕ) → 1 ≤ v → r < side_of v → c < side_of v → paint_of v symmetric_format r c ≡ paint_of v symmetric_format c r
unfolding fixed_colour
paint-symmetric v r c l h k =
    role-symmetric (fixed_colour _ _) v r c l h k (λ i m. same-same _ _ (below-at 15 (λ i. is_same (has_bit symmetric_format i) (eqb i 7)) just-seven i m))

-- the symbol of any codewords has the function patterns
pub patterns-kept : (v : ℕ) (cw : List ℕ) (g : Grid) → g ≡ unmasked_grid v cw → HasPatterns v g
patterns-kept v cw g e = search (arith, square-is, outside, colour-square)

-- codewords drawn on a square with the function patterns, which is then transposed, make the symbol of these codewords
pub patterns-drawn : (v : ℕ) (cw : List ℕ) (g h : Grid) → 1 ≤ v → HasPatterns v g → h ≡ square (side_of v) (placed_colour v cw (colour (transposed g))) → h ≡ unmasked_grid v cw
patterns-drawn v cw g h l p k = k ∙ square-same _ _ _ (search (arith, by_test, inside, outside, colour-transposed, region-symmetric, paint-symmetric))

-- functions with equal values have the same number of the least value
least-same : (n : ℕ) (f g : ℕ → ℕ) (m : ℕ) → ((k : ℕ) → f k ≡ g k) → IsFirstLeast n f m → IsFirstLeast n g m
least-same n f g m e h = search arith

-- the least penalty of the drawn symbols is that of the symbols of the codewords
pub mask-is : (v : ℕ) (l : Level) (cw : List ℕ) (region unmasked : Grid) (mask : ℕ) → 1 ≤ v → region ≡ region_grid v → unmasked ≡ unmasked_grid v cw → IsFirstLeast 8 (masked_penalty v l region unmasked) mask → IsMask v l cw mask
mask-is v l cw region unmasked mask k e f h = least-same 8 _ _ _ (search (arith, masked-all)) h

-- the mask that is best for a canvas is the mask of its codewords
pub canvas-mask : (v : ℕ) (l : Level) (cw : List ℕ) (k : Canvas) (mask : ℕ) → 1 ≤ v → k.version ≡ v → k.level ≡ l → k.unmasked ≡ unmasked_grid v cw
    → IsFirstLeast 8 (masked_penalty k.version k.level k.region k.unmasked) mask → IsMask v l cw mask
canvas-mask v l cw k mask least a b e h =
    mask-is v l cw _ _ _ least (k.region_is ∙ ap region_grid a) e (subst (λ (w : Level). IsFirstLeast 8 (masked_penalty v w k.region k.unmasked) mask) b (subst (λ (w : ℕ). IsFirstLeast 8 (masked_penalty w k.level k.region k.unmasked) mask) a h))

-- what a canvas draws with a mask is the symbol of its codewords
pub canvas-drawn : (v : ℕ) (l : Level) (cw : List ℕ) (k : Canvas) (mask : ℕ) → 1 ≤ v → k.version ≡ v → k.level ≡ l → k.unmasked ≡ unmasked_grid v cw
    → masked_grid k.version k.level mask k.region k.unmasked ≡ grid_of v l mask cw
canvas-drawn v l cw k mask least a b e = search (arith, masked-all)
