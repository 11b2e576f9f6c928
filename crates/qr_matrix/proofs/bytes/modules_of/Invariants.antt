use Rattle.{qr_matrix.specs.BitRow.has, std.proofs.Common.{◌≡◌, ℕ, ◌+◌, ◌&&◌, ◌==◌, nat_lt, slice_index_or}}
use Rattle.qr_matrix.proofs.bytes.modules_of.Given as goal

-- the modules before the current one have been read
abbrev pub invariant-loop-col : goal.invariant-loop-col
invariant-loop-col l = (c : ℕ) → has l.row c ≡ (nat_lt c l.col && slice_index_or l.bytes (l.start + c) 0 == l.byte)
