use Rattle.qr_images.proofs.lemmas.checksums.CrcLemmas.{by-table}
use Rattle.qr_images.proofs.checksums.crc_next.Goals as goal

pub returns : goal.returns
returns c = rw c.from.ensures (by-table c.args.crc c.args.byte c.ranges.byte.fits)
