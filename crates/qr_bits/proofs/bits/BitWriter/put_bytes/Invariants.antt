use Rattle.{std.proofs.Common.{◌++◌, ◌<◌, ◌^◌, ◌≡◌, take}, qr_bits.specs.Bits.{bits_of, field}}
use Rattle.qr_bits.proofs.bits.BitWriter.put_bytes.Given as goal

-- the bytes so far are appended
abbrev pub invariant-loop-byte : goal.invariant-loop-byte
invariant-loop-byte l = record {
  rest : l.rest < 2 ^ l.width;
  bits : bits_of l.whole.items ++ field l.width l.rest ≡ (bits_of l.initial.whole.items ++ field l.width l.initial.rest) ++ bits_of (take l.byte-index l.bytes);
}
