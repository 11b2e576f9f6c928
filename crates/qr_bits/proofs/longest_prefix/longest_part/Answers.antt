use Rattle.{qr_bits.proofs.lemmas.segmentation.BytesOnlyLemmas.{bytes-fit, bytes-longest}, std.proofs.{Common.arith, Math.Nat.le_refl, lemmas.List.take_all}}
use Rattle.qr_bits.proofs.longest_prefix.longest_part.Goals as goal

pub returns-then-input-most : goal.returns-then-input-most
returns-then-input-most c = search (arith, le_refl, take_all, bytes-fit)

pub returns-in-BytesOnly : goal.returns-in-BytesOnly
returns-in-BytesOnly c =
    rw (c.in-BytesOnly.is, ← c.room-room.ensures.value)
    (bytes-longest c.args.writing.interpretation c.args.size.version c.args.input.now c.room-room.result c.bytes_in-most.result c.bytes_in-most.result (omega (arith, c.if-input-most.false)) c.bytes_in-most.ensures.fits c.bytes_in-most.ensures.most)
