-- The dark runs of a row, as `Matrix::dark_runs` yields them. A dark run is a run of dark modules. Its `start` is the
-- column of its first module, and its `end` the column after its last one.
use Rattle.std.specs.Prelude.{◌≡◌, ◌<◌, ◌≤◌, ◌&&◌, ℕ, nat_le, nat_lt, List}
use Rattle.std.specs.List.{All, AllPairs, list_any}
use Rattle.qr_matrix.specs.Grid.{Grid, colour}
use Rattle.qr_matrix.specs.declared.dark_runs.Run.{Run}

-- `runs` are the dark runs of row `row`, from left to right. Each of them has at least one module and is inside the
-- square, and there is a light module between two runs. A module is dark exactly if it is in one of the runs [own]
pub record AreDarkRuns (g : Grid) (row : ℕ) (runs : List Run) : Type 0 where
  pub within : All (λ run. (run.start < run.end) × (run.end ≤ g.side)) runs
  pub apart : AllPairs (λ a b. a.end < b.start) runs
  pub dark : (c : ℕ) → colour g row c ≡ list_any (λ run. nat_le run.start c && nat_lt c run.end) runs
