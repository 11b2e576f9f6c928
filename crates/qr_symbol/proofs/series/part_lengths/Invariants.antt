use Rattle.{qr_bits.specs.Interpretation.MayWrite, qr_symbol.specs.{Series.AreParts, Steps.Series.AreLengths}}
use Rattle.std.proofs.Common.{ℕ, ◌+◌, ◌≤◌, List, ◌++◌, length}
use Rattle.qr_symbol.proofs.series.part_lengths.Given as goal

-- the lengths found and those of the rest are the lengths of the input, which has at least as many parts as lengths
-- found and parts of the rest together
abbrev pub invariant-loop-rest : goal.invariant-loop-rest
invariant-loop-rest l = record {
  short : length l.rest ≤ length l.fn.input;
  may : MayWrite l.writing.interpretation l.rest;
  lengths : (ns : List ℕ) → AreLengths l.fn.size.version l.fn.size.level l.writing.rule l.writing.interpretation l.rest ns → AreLengths l.fn.size.version l.fn.size.level l.writing.rule l.writing.interpretation l.fn.input (l.lengths.items ++ ns);
  parts : (k : ℕ) → ((qs : List (List ℕ)) → AreParts l.fn.size.version l.fn.size.level l.writing.rule l.writing.interpretation l.rest qs → k ≤ length qs)
      → (ps : List (List ℕ)) → AreParts l.fn.size.version l.fn.size.level l.writing.rule l.writing.interpretation l.fn.input ps → length l.lengths.items + k ≤ length ps;
}

abbrev pub decreases-loop-rest : goal.decreases-loop-rest
decreases-loop-rest l = length l.rest
