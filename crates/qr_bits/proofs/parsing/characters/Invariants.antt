use Rattle.{std.proofs.Common.drop, qr_bits.proofs.lemmas.parsing.PayloadLemmas.IsReading}
use Rattle.qr_bits.specs.{declared.modes.Mode.TheVariants.Alphanumeric, Modes.payload_bits, Parsing.characters_of, Steps.Parsing.prepend_read}
use Rattle.qr_bits.proofs.parsing.characters.Given as goal

abbrev pub invariant-loop-left : goal.invariant-loop-left
invariant-loop-left l =
    IsReading (characters_of l.left l.reader) (payload_bits Alphanumeric l.left) l.out.items l.reader
    (prepend_read l.initial.out.items (characters_of l.count l.initial.reader)) (drop (payload_bits Alphanumeric l.count) l.initial.reader)

abbrev pub decreases-loop-left : goal.decreases-loop-left
decreases-loop-left l = l.left
