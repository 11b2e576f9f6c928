use Rattle.qr_bits.{proofs.lemmas.segmentation.DoubledRunLemmas.IsWritten, specs.Segmentation.IsBestAssignment}
use Rattle.{qr_bits.specs.declared.{interpretation.Interpretation.TheVariants.Gs1, modes.Mode.Mode}, std.proofs.Common.{◌-◌, ◌≤◌, List, length, vec_len}}
use Rattle.qr_bits.proofs.segmentation.least_doubled_segments.Given as goal

abbrev pub invariant-loop-modes : goal.invariant-loop-modes
invariant-loop-modes l = record {
  all : List Mode;
  best : IsBestAssignment Gs1 l.fn.version l.fn.rule l.input all;
  rows : vec_len l.table ≤ length l.input;
  written : IsWritten l.input all (length l.input - vec_len l.table) l.found.items l.run.mode l.run.len l.run.state l.table.items l.characters.items l.copied;
}

abbrev pub decreases-loop-modes : goal.decreases-loop-modes
decreases-loop-modes l = vec_len l.table

abbrev pub invariant-loop-row : goal.invariant-loop-row
invariant-loop-row l = record {
  all : List Mode;
  best : IsBestAssignment Gs1 l.fn.version l.fn.rule l.input all;
  rows : vec_len l.table ≤ length l.input;
  fewer : vec_len l.table ≤ vec_len l.initial.table;
  written : IsWritten l.input all (length l.input - vec_len l.table) l.found.items l.run.mode l.run.len l.run.state l.table.items l.characters.items l.copied;
}

abbrev pub decreases-loop-row : goal.decreases-loop-row
decreases-loop-row l = vec_len l.table
