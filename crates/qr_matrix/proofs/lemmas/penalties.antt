-- The penalty from its parts.
use Rattle.std.proofs.Common.{◌≡◌, ◌≤◌, ℕ, ◌*◌, Bool, false, arith}
use Rattle.qr_matrix.{specs.{Sums.count_below, Steps.set_count}, proofs.lemmas.runs.RowLemmas.size-is}

-- the bits of a row are its dark modules
pub row-count : (s w : ℕ) (bit line : ℕ → Bool) → s ≤ 64 * w → w ≤ 3 → ((c : ℕ) → bit c ≡ line c) → ((c : ℕ) → s ≤ c → bit c ≡ false) → set_count bit ≡ count_below s line
row-count s w bit line h k e past = search (arith, size-is)
