-- How covered codewords are counted. `marks` has a mark for each codeword of the final sequence.
use Rattle.std.specs.Prelude.{◌≡◌, ℕ, ◌+◌, ◌-◌, ◌*◌, Bool, true, false, nat_lt, if◌then◌else◌, List, slice_set}
use Rattle.std.specs.List.{slice_index_or}
use Rattle.qr_layout.specs.declared.blocks.Blocks.{Blocks}
use Rattle.qr_layout.specs.declared.region.Module.{Module}
use Rattle.qr_layout.specs.Order.{IsOrder}
use Rattle.qr_matrix.specs.Sums.{count_below}
use Rattle.qr_logos.specs.Logo.{is_covered}

-- The marks with that of codeword `j` set, if `under` is true
abbrev pub with_mark : List Bool → (j : ℕ) → (under : Bool) → List Bool
with_mark marks j under = if under then slice_set marks j true else marks

-- Exactly those codewords are marked that have a module under the logo
pub record AreMarks (v k : ℕ) (marks : List Bool) : Type 0 where
  pub places : List Module
  pub order : IsOrder v places
  pub each : (j : ℕ) → slice_index_or marks j false ≡ is_covered v k places j

-- How many of `count` codewords are marked. The first of them has the index `first`, and the indices of neighbours
-- differ by `step`
abbrev pub marked_among : List Bool → (first step count : ℕ) → ℕ
marked_among marks first step count = count_below count (λ i. slice_index_or marks (first + step * i) false)

-- How many data codewords all short and long blocks have together
abbrev pub data_len : Blocks → ℕ
data_len b = b.short_len * (b.short + b.long) + b.long

-- How many codewords of block `i` are marked: of its data codewords that each block has, of the last one that only a
-- long block has, and of its error correction codewords
abbrev pub marked_in : Blocks → List Bool → ℕ → ℕ
marked_in b marks i =
    marked_among marks i (b.short + b.long) b.short_len
    + (marked_among marks (b.short_len * (b.short + b.long) + (i - b.short)) 1 (if nat_lt i b.short then 0 else 1)
    + marked_among marks (data_len b + i) (b.short + b.long) b.ec_len)
