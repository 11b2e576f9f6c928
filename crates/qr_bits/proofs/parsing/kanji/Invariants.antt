use Rattle.{qr_bits.{proofs.lemmas.parsing.PayloadLemmas.IsReading, specs.{Parsing.pairs_of, Steps.Parsing.prepend_read}}, std.proofs.Common.{◌*◌, drop}}
use Rattle.qr_bits.proofs.parsing.kanji.Given as goal

abbrev pub invariant-loop-left : goal.invariant-loop-left
invariant-loop-left l =
    IsReading (pairs_of l.left l.reader) (13 * l.left) l.out.items l.reader
    (prepend_read l.initial.out.items (pairs_of l.count l.initial.reader)) (drop (13 * l.count) l.initial.reader)

abbrev pub decreases-loop-left : goal.decreases-loop-left
decreases-loop-left l = l.left
