use Rattle.std.proofs.Common.{rules}
use Rattle.qr_symbol.proofs.encoding.level_for.Goals as goal

pub highest_with_room-requires : goal.highest_with_room-requires
highest_with_room-requires c = rw c.needed_bits-bits.ensures c.requires.room

pub returns : goal.returns
returns c = search rules
