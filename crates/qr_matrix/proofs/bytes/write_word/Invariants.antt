use Rattle.{qr_matrix.specs.{BitRow.has_bit, Bytes.byte_of}, std.proofs.Common.{◌≡◌, ℕ, ◌+◌, ◌-◌, ◌<◌, ◌≤◌, ◌⊎◌, length, slice_index_or}}
use Rattle.qr_matrix.proofs.bytes.write_word.Given as goal

-- the bits before the current eight have been written
abbrev pub invariant-loop-next : goal.invariant-loop-next
invariant-loop-next l = record {
  begun : l.at ≤ l.next;
  within : l.next < l.at + l.count + 8;
  long : length l.bytes ≡ length l.fn.bytes;
  rest : (k : ℕ) → has_bit l.rest k ≡ has_bit l.word (l.next - l.at + k);
  written : (k : ℕ) → l.at + k < l.next → slice_index_or l.bytes (l.at + k) 0 ≡ byte_of (has_bit l.word k);
  others : (i : ℕ) → (i < l.at) ⊎ (l.next ≤ i) → slice_index_or l.bytes i 0 ≡ slice_index_or l.fn.bytes i 0;
}

abbrev pub decreases-loop-next : goal.decreases-loop-next
decreases-loop-next l = l.at + l.count - l.next
