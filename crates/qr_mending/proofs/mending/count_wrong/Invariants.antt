use Rattle.{qr_matrix.specs.{Difference.differs, Grid.colour}, std.proofs.Common.{◌≡◌, ℕ, ◌<◌, ◌≤◌, ◌||◌}}
use Rattle.qr_mending.proofs.mending.count_wrong.Given as goal

-- the rows before the current one differ where a module is wrong, and the others are those of the symbol
abbrev pub invariant-loop-row : goal.invariant-loop-row
invariant-loop-row l = record {
  side : l.symbol.side ≡ l.scan.matrix.now.side;
  done : (r c : ℕ) → r < l.row → c < l.scan.matrix.now.side → differs l.scan.matrix.now l.symbol r c ≡ (colour l.scan.unknown.now r c || differs l.scan.matrix.now l.fn.symbol r c);
  rest : (r c : ℕ) → l.row ≤ r → r < l.scan.matrix.now.side → c < l.scan.matrix.now.side → colour l.symbol r c ≡ colour l.fn.symbol r c;
}
