use Rattle.{qr_layout.specs.Blocks.blocks_of, qr_symbol.proofs.Facts.{both-interleaved, data-sizes-whole, final-whole, take-front}}
use Rattle.{qr_symbol.specs.Interleaving.IsFinalMessage, std.proofs.Common.{rules, ◌≡◌, ◌++◌, ap, length, length-append, sym, ◌∙◌, subst, arith}}
use Rattle.qr_mending.proofs.message.interleaved.Goals as goal

pub scatter-requires-clause-whole : goal.scatter-requires-clause-whole
scatter-requires-clause-whole c =
    rw (c.of_data.ensures, c.blocks-blocks.ensures)
    (ap length c.deref.ensures.value
    ∙ (c.requires.long ∙ sym (data-sizes-whole c.args.version c.args.level (omega arith) (omega arith))))

pub scatter-requires-clause-room : goal.scatter-requires-clause-room
scatter-requires-clause-room c =
    rw (c.of_data.ensures, c.blocks-blocks.ensures)
    (c.split_at_mut-data.ensures.front_len
    ∙ ((omega arith) ∙ (c.requires.long ∙ sym (data-sizes-whole c.args.version c.args.level (omega arith) (omega arith)))))

pub returns-clause-interleaved : goal.returns-clause-interleaved
returns-clause-interleaved c =
    let b = blocks_of c.args.version c.args.level in
    let message = c.args.message.items in
    let first = rw (c.of_data.ensures, c.blocks-blocks.ensures, c.deref.ensures.value) at c.scatter.ensures in
    let checks = rw (c.of_corrections.ensures, c.blocks-blocks.ensures, c.deref-2.ensures.value) at c.scatter-2.ensures in
    let all = c.scatter.new.interleaved ++ c.scatter-2.new.interleaved in
    let len : length all ≡ c.in_ok-interleaved.interleaved.len =
    length-append c.scatter.new.interleaved c.scatter-2.new.interleaved
    ∙ omega arith in
    subst (IsFinalMessage b message) (sym (search (rules, take-front)))
    (both-interleaved b message c.args.corrections.items c.scatter.new.interleaved c.scatter-2.new.interleaved
    c.requires.checks.each first.long checks.long first.gathered checks.gathered)

pub returns-clause-many : goal.returns-clause-many
returns-clause-many c =
    final-whole c.args.version c.args.level c.args.message.items _ (omega arith) (omega arith) (returns-clause-interleaved c)
