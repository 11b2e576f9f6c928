use Rattle.{qr_bits.proofs.Facts.{bits-most, covers-all}, std.proofs.Common.rules}
use Rattle.qr_symbol.proofs.version_choice.needed_bits.Goals as goal

pub bit_len-requires : goal.bit_len-requires
bit_len-requires c = search (rules, covers-all)

pub overflow_add-result : goal.overflow_add-result
overflow_add-result c = search (rules, bits-most, covers-all)
