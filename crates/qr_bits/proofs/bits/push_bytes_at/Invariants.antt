use Rattle.{qr_bits.specs.{Bits.bits_of, Parsing.bytes_of}, std.proofs.Common.{◌≡◌, ◌+◌, ◌/◌, ◌<◌, ◌++◌, drop, get_or}}
use Rattle.qr_bits.proofs.bits.push_bytes_at.Given as goal

-- the bytes so far are appended, and `high` is the first byte of the next two
abbrev pub invariant-loop-i : goal.invariant-loop-i
invariant-loop-i l = record {
  high : l.high ≡ get_or l.bytes (l.at / 8 + l.i) 0;
  small : l.high < 256;
  items : l.out.items ≡ l.initial.out.items ++ bytes_of l.i (drop l.at (bits_of l.bytes));
}
