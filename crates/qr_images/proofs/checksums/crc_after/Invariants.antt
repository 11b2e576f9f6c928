use Rattle.std.proofs.Common.{◌≡◌, drop}
use Rattle.qr_images.specs.Checksums.{crc_from}
use Rattle.qr_images.proofs.checksums.crc_after.Given as goal

abbrev pub invariant-loop-byte : goal.invariant-loop-byte
invariant-loop-byte l = crc_from l.rest (drop l.byte-index l.bytes) ≡ crc_from l.crc l.bytes
