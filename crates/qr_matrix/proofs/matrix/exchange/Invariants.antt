use Rattle.{qr_matrix.specs.Steps.{bit_in, exchanged}, std.proofs.Common.{◌≡◌, ℕ, ◌+◌, ◌*◌, ◌<◌, ◌≤◌, length, get_or}}
use Rattle.qr_matrix.proofs.matrix.exchange.Given as goal

abbrev pub invariant-loop-group : goal.invariant-loop-group
invariant-loop-group l = record {
  long : length l.tile ≡ 64;
  before : (r c : ℕ) → r < 2 * l.steps * l.group → c < 64 → bit_in l.tile r c ≡ exchanged l.steps (bit_in l.fn.tile) r c;
  after : (r : ℕ) → 2 * l.steps * l.group ≤ r → get_or l.tile r 0 ≡ get_or l.fn.tile r 0;
}

abbrev pub invariant-loop-row : goal.invariant-loop-row
invariant-loop-row l = record {
  long : length l.tile ≡ 64;
  before : (r c : ℕ) → r < l.first → c < 64 → bit_in l.tile r c ≡ exchanged l.steps (bit_in l.fn.tile) r c;
  upper : (r c : ℕ) → l.first ≤ r → r < l.row → c < 64 → bit_in l.tile r c ≡ exchanged l.steps (bit_in l.fn.tile) r c;
  lower : (r c : ℕ) → l.first + l.steps ≤ r → r < l.row + l.steps → c < 64 → bit_in l.tile r c ≡ exchanged l.steps (bit_in l.fn.tile) r c;
  between : (r : ℕ) → l.row ≤ r → r < l.first + l.steps → get_or l.tile r 0 ≡ get_or l.fn.tile r 0;
  below : (r : ℕ) → l.row + l.steps ≤ r → get_or l.tile r 0 ≡ get_or l.fn.tile r 0;
}
