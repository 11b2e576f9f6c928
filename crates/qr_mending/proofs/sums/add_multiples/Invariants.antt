use Rattle.{qr_field.specs.{Galois.product, Polynomial.power}, std.proofs.Common.{◌≡◌, ◌*◌, ◌<◌, ◌≤◌, ℕ, length, get_or, bit_xor}}
use Rattle.qr_mending.proofs.sums.add_multiples.Given as goal

abbrev pub invariant-loop-k : goal.invariant-loop-k
invariant-loop-k l = record {
  small : l.exponent < 255;
  value : power l.exponent ≡ product l.element (power (l.k * l.step));
  count : length l.sums ≡ length l.initial.sums;
  done : (j : ℕ) → j < l.k → get_or l.sums j 0 ≡ bit_xor (get_or l.initial.sums j 0) (product l.element (power (j * l.step)));
  rest : (j : ℕ) → l.k ≤ j → get_or l.sums j 0 ≡ get_or l.initial.sums j 0;
}
