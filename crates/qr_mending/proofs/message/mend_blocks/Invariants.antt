use Rattle.{qr_mending.specs.Steps.Message.{marks_at, AreMarksInBlocks, AreMended}, qr_symbol.specs.Interleaving.IsChecks, std.proofs.Common.◌≡◌}
use Rattle.qr_mending.proofs.message.mend_blocks.Given as goal

-- the blocks before the current one are mended
abbrev pub invariant-loop-block : goal.invariant-loop-block
invariant-loop-block l = record {
  so_far : AreMended l.blocks l.spare l.received.data.items l.received.checks.items (marks_at l.blocks l.unread) l.block l.message.items l.changed.items;
  checks : IsChecks l.blocks l.message.items l.block l.corrections.items;
  marks : AreMarksInBlocks l.blocks l.marks l.unread;
  divisor : l.divisor ≡ l.blocks.ec_len;
}
