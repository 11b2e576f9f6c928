use Rattle.{qr_bits.proofs.Facts.length-data, std.proofs.Common.rules}
use Rattle.qr_symbol.proofs.encoding.final_codewords.Goals as goal

pub interleave-requires : goal.interleave-requires
interleave-requires c = search (rules, length-data)
