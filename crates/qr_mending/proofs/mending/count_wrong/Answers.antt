use Rattle.std.proofs.{Common.{rules, ◌≡◌, ◌<◌, ℕ, Bool, arith}, lemmas.Bool.{ne_eqb, Decides.nat_tests}}
use Rattle.qr_matrix.{specs.{Difference.difference_count, Grid.{Grid, colour, with_row}, Sums.places_passing}, proofs.Facts.colour-square}
use Rattle.qr_mending.{specs.Mending.wrong_modules, proofs.lemmas.format.sum-same}
use Rattle.qr_mending.proofs.mending.count_wrong.Goals as goal

-- the colours of a square with a new row
in-row : (g h : Grid) (row : ℕ) (f : ℕ → Bool) → h ≡ with_row g row f → (r c : ℕ) → r ≡ row → r < g.side → c < g.side → colour h r c ≡ f c
in-row g h row f e r c same p q = search (rules, nat_tests, colour-square)

pub loop-row-preserved : goal.loop-row-preserved
loop-row-preserved c = search (arith, in-row, colour-square, ne_eqb)

pub returns : goal.returns
unfolding wrong_modules difference_count places_passing
returns c = search (rules, sum-same)
