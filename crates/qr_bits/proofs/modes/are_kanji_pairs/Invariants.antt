use Rattle.{std.proofs.Common.{◌≡◌, length}, qr_bits.specs.Modes.{in_twos, is_kanji_pair}}
use Rattle.qr_bits.proofs.modes.are_kanji_pairs.Given as goal

-- what is left is in twos where the whole is
abbrev pub invariant-loop-rest : goal.invariant-loop-rest
invariant-loop-rest l = in_twos is_kanji_pair l.rest ≡ in_twos is_kanji_pair l.bytes

abbrev pub decreases-loop-rest : goal.decreases-loop-rest
decreases-loop-rest l = length l.rest
