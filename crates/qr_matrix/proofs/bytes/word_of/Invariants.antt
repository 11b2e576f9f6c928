use Rattle.{qr_matrix.specs.{BitRow.has_bit, Bytes.byte_of}, std.proofs.Common.{◌≡◌, ℕ, ◌+◌, ◌*◌, ◌<◌, ◌≤◌, false, slice_index_or}}
use Rattle.qr_matrix.proofs.bytes.word_of.Given as goal

-- the bytes before the current eight have been read
abbrev pub invariant-loop-part : goal.invariant-loop-part
invariant-loop-part l = record {
  read : (k : ℕ) → k < 8 * l.part → slice_index_or l.bytes (l.start + k) 0 ≡ byte_of (has_bit l.word k);
  rest : (k : ℕ) → k < 64 → 8 * l.part ≤ k → has_bit l.word k ≡ false;
}
