use Rattle.{qr_field.specs.Polynomial.IsByte, qr_mending.specs.Steps.{Roots.HasLeadingOne, Sums.eval}, std.proofs.Common.{◌≡◌, ◌≢◌, ◌<◌, ◌≤◌, ℕ, length}}
use Rattle.qr_mending.proofs.errors.divide_out.Given as goal

abbrev pub invariant-loop-value_at_root : goal.invariant-loop-value_at_root
invariant-loop-value_at_root l = record {
  leading : HasLeadingOne l.locator.items;
  value : l.value_at_root ≡ eval l.root l.locator.items;
  most : length l.locator.items ≤ length l.initial.locator.items;
  shorter : 1 ≤ l.value_at_root → length l.locator.items < length l.initial.locator.items;
  others : (y : ℕ) → IsByte y → y ≢ l.root → eval y l.initial.locator.items ≡ 0 → eval y l.locator.items ≡ 0;
}

abbrev pub decreases-loop-value_at_root : goal.decreases-loop-value_at_root
decreases-loop-value_at_root l = length l.locator.items
