use Rattle.{qr_matrix.specs.{BitRow.has, Bytes.byte_of}, std.proofs.Common.{◌≡◌, ℕ, ◌+◌, ◌*◌, ◌<◌, slice_index_or}}
use Rattle.qr_matrix.proofs.bytes.row_by_words.Given as goal

-- the words before the current one have been read
abbrev pub invariant-loop-number : goal.invariant-loop-number
invariant-loop-number l = (c : ℕ) → c < 64 * l.number → slice_index_or l.bytes (l.start + c) 0 ≡ byte_of (has l.row c)
