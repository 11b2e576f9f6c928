-- Bits that are exchanged within words, and bits of codewords that are read and written many at a time. Wherever `mask`
-- has a 1, the bit of a word at the same index is exchanged with the bit whose index is greater by `steps`. A collector
-- takes in the bits that are read from a symbol, and appends them to a list.
use Rattle.std.specs.Prelude.{◌≡◌, ◌<◌, ◌≤◌, ℕ, ◌+◌, ◌-◌, ◌/◌, ◌&&◌, Bool, not, nat_le, if◌then◌else◌, List, ◌++◌, length, Option}
use Rattle.std.specs.Option.{IfSome, IsSome}
use Rattle.qr_bits.specs.Bits.{codeword_bit}
use Rattle.qr_matrix.specs.{BitRow.has_bit, Grid.is_same, Sums.all_below}

-- The index of the bit that bit `i` of a word is exchanged with, or `i` itself if it is not exchanged.
abbrev pub partner : ℕ → ℕ → ℕ → ℕ
partner steps mask i = if has_bit mask i then i + steps else if nat_le steps i && has_bit mask (i - steps) then i - steps else i

-- No two bits of `mask` that are 1 have indices that differ by `steps`. So no bit of a word is exchanged with two
-- others.
unfoldable pub are_pairs : ℕ → ℕ → Bool
are_pairs steps mask = all_below 64 (λ i. not (has_bit mask i && has_bit mask (i + steps)))

-- For each of the 64 indices, `mask` has a 1 either at this index or at the index that is smaller by `steps`, but not
-- at both. So each bit of a word is exchanged with exactly one other bit.
unfoldable pub are_halves : ℕ → ℕ → Bool
are_halves steps mask = all_below 64 (λ i. not (is_same (has_bit mask i) (nat_le steps i && has_bit mask (i - steps))))

-- The index of a row among the `n` rows of a strip, counted from 0 in the direction in which the strip is filled. `j`
-- is the index of the same row, counted from 0 at the top.
abbrev pub rank_in : ℕ → Bool → ℕ → ℕ
rank_in n upward j = if upward then n - 1 - j else j

-- `bits` has 64 bits of the codewords, from bit `number` on. The first of them is the highest bit of `bits`.
abbrev pub AreNext : List ℕ → ℕ → ℕ → Type 0
AreNext cw number bits = (k : ℕ) → k < 64 → has_bit bits (63 - k) ≡ codeword_bit cw (number + k)

-- What a collector has: its bits, or `None` if an allocation was refused, and the number of codewords for which it has
-- memory.
pub record Collected : Type 0 where
  pub bits : Option (List Bool)
  pub room : ℕ

-- The collector has exactly the bits `xs`, unless an allocation was refused. It has memory for at least `room`
-- codewords. If these are as many as the bits `xs` fill, no allocation was refused.
pub record HasCollected (room : ℕ) (xs : List Bool) (b : Collected) : Type 0 where
  pub bits : IfSome b.bits (λ ys. ys ≡ xs)
  pub memory : room ≤ b.room
  pub enough : length xs / 8 ≤ room → IsSome b.bits

-- The collector `after` has the bits that the collector `before` has, and then `more`. If an allocation was refused,
-- now or earlier, it has no bits, and there is less memory than all these bits need.
abbrev pub Appends : List Bool → Collected → Collected → Type 0
Appends more before after = (room : ℕ) (xs : List Bool) → HasCollected room xs before → HasCollected room (xs ++ more) after
