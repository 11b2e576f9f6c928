use Rattle.qr_matrix.{proofs.lemmas.matrix_pair.TurnLemmas.is-passed, specs.{BitRow.{dark_in, has_bit}, Grid.colour, Steps.lanes}}
use Rattle.std.proofs.Common.{◌≡◌, ℕ, ◌<◌, ◌≤◌, ◌-◌, ◌%◌, ◌&&◌, Bool, false, cond, not, length}
use Rattle.qr_matrix.proofs.matrix_pair.MatrixPair.set_rows_masked_in.Given as goal

abbrev pub invariant-loop-row : goal.invariant-loop-row
invariant-loop-row g l =
    let first = l.initial.self-inside in
    let rows = l.self-inside.rows.items in
    record {
      turn : l.row % 12 ≡ l.first;
      same : l.self-inside.side ≡ first.side;
      long : length rows ≡ first.side;
      so_far : (s : Bool) (r c : ℕ) → c < first.side → dark_in (lanes rows s) r c ≡ cond (is-passed l.first l.row r)
          (cond (colour l.within r c && has_bit (cond s l.fn.patterns.1 l.fn.patterns.0) (c % 6)) (not (colour l.unmasked r c)) (colour l.unmasked r c)) (dark_in (lanes first.rows.items s) r c);
      past : (s : Bool) (r c : ℕ) → first.side ≤ c → dark_in (lanes rows s) r c ≡ false;
    }

abbrev pub decreases-loop-row : goal.decreases-loop-row
decreases-loop-row g l = l.side - l.row
