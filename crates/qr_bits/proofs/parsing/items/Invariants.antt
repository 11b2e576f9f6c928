use Rattle.{qr_bits.{proofs.lemmas.parsing.ParsingLemmas.behind, specs.Parsing.items_of}, std.proofs.Common.{◌≡◌, true, length}}
use Rattle.qr_bits.proofs.parsing.items.Given as goal

-- what was read, and what is left to read, make the whole
abbrev pub invariant-loop-reader : goal.invariant-loop-reader
invariant-loop-reader l = behind l.items.items l.characters.items (items_of l.version l.may l.reader) ≡ items_of l.version true l.initial.reader

abbrev pub decreases-loop-reader : goal.decreases-loop-reader
decreases-loop-reader l = length l.reader
