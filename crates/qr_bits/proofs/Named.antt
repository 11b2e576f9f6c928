-- The lemmas that attributes of functions name.
use Rattle.std.proofs.{Common.{append-nil, append_assoc}, lemmas.List.{take_all, Sums.sum_by_more}}
use Rattle.qr_bits.proofs.lemmas.{bits.BitLemmas.{byte-first, number-after, power-fits}, folding.length-folded}
use Rattle.qr_bits.proofs.lemmas.{laws.DataLemmas.length-stream, lower_bound.least-held, padding.{pads-even, pads-none, pads-odd}}

pub ruleset writing_bits = (byte-first, number-after, power-fits)

pub ruleset lengths = (length-folded, length-stream)

pub ruleset sums_of_sixths = (take_all, sum_by_more, least-held)

pub ruleset pad_codewords = (append-nil, append_assoc, pads-none, pads-even, pads-odd)

pub ruleset reading_groups = append-nil
