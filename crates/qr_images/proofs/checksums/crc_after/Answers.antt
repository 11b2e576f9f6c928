use Rattle.qr_images.proofs.lemmas.checksums.CrcLemmas.{crc-next, crc-none}
use Rattle.std.proofs.Common.{rules}
use Rattle.qr_images.proofs.checksums.crc_after.Goals as goal

pub loop-byte-preserved : goal.loop-byte-preserved
loop-byte-preserved c = search (rules, crc-next)

pub returns : goal.returns
returns c = search (rules, crc-none)
