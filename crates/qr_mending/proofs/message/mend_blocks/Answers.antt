use Rattle.std.{proofs.{Common.{◌≡◌, ◌++◌, ◌-◌, ◌∙◌, length, take, drop, ap, sym, arith}, lemmas.List.length-take-le}, specs.List.refill}
use Rattle.qr_symbol.{specs.Interleaving.{block_count, block_len, data_sizes}, proofs.Facts.{checks-block, data-sizes-whole, sizes-whole}}
use Rattle.qr_mending.proofs.lemmas.{errors.RemovalLemmas.refill-same, erasures.length-read}
use Rattle.qr_mending.proofs.lemmas.message.BlocksLemmas.{in-blocks-mended, marks-or-none, marks-whole, mended-corrects, mended-more, none-in-blocks, none-mended, IsReadBlock}
use Rattle.qr_mending.proofs.message.mend_blocks.Goals as goal

pub erased_of-requires-clause-whole : goal.erased_of-requires-clause-whole
erased_of-requires-clause-whole c = marks-whole _ _ _ c.loop-block.invariant.marks

pub mend_block-requires-clause-marks : goal.mend_block-requires-clause-marks
mend_block-requires-clause-marks c =
    let b = c.blocks-blocks.result in
    marks-or-none b _ c.loop-block.block c.as_mut_slice.result.now c.deref.result.now
    (marks-whole b _ _ c.loop-block.invariant.marks) (omega (arith, ap block_count c.of_data.ensures))
    (ap length c.as_mut_slice.ensures.value ∙ c.in_ok-mended.ensures.len) (c.deref.ensures.value ∙ c.in_ok-erased.ensures)

pub loop-block-preserved : goal.loop-block-preserved
loop-block-preserved c =
    let i = c.loop-block.invariant in
    let b = c.blocks-blocks.result in
    let d = c.in_ok-received.received in
    let k = c.loop-block.block in
    let n = block_len (data_sizes b) k in
    let old = c.in_ok-mended.mended.items in
    let new = c.mend_block.new.codewords in
    let block : IsReadBlock b d.«data».items d.checks.items k c.new-divisor.result old = record {
      divisor = i.divisor;
      within = omega (arith, ap block_count c.of_data.ensures);
      value = c.in_ok-mended.ensures.value;
      long = c.in_ok-mended.ensures.len;
    } in
    let mended = rw (c.as_mut_slice.ensures.value, c.deref.ensures.value, c.in_ok-erased.ensures) at c.in-Some.ensures.mended in
    let long : length new ≡ length old = mended.0.long ∙ length-read old _ in
    let same : refill c.in_ok-mended.mended.len old new ≡ new = refill-same old new c.in_ok-mended.mended.len (omega arith) long in
    let cut : c.len-in-loop-block.result - c.count.result ≡ n =
    omega arith in
    let es : c.split_at.result.0.now ≡ take n new = cc in
    let cs : c.split_at.result.1.now ≡ drop n new = cc in
    let front = c.in_ok-extend_from_slice.ensures.items ∙ ap (λ z. c.loop-block.message.items ++ z) es in
    let back = c.in_ok-extend_from_slice-2.ensures.items ∙ ap (λ z. c.loop-block.corrections.items ++ z) cs in
    record {
      so_far = rw (front, c.in_ok-push.ensures.items) (mended-more b c.from-spare.result d.«data».items d.checks.items _ k
          c.new-divisor.result old new c.in-Some.changes block mended.0 mended.1 c.loop-block.message.items c.loop-block.changed.items i.so_far);
      checks = rw (front, back) (checks-block b c.loop-block.message.items c.loop-block.corrections.items (take n new) (drop n new)
          k block.within i.so_far.long (length-take-le n new (omega arith))
          (mended-corrects b c.from-spare.result d.«data».items d.checks.items k c.new-divisor.result old _ new block mended.0) i.checks);
      marks = i.marks;
      divisor = i.divisor;
    }

pub returns-clause-mended : goal.returns-clause-mended
returns-clause-mended c =
    let i = c.loop-block.invariant in
    let b = c.blocks-blocks.result in
    let d = c.in_ok-received.received in
    let all : c.loop-block.block ≡ block_count (data_sizes b) = omega (arith, ap block_count c.of_data.ensures) in
    rw (c.blocks-blocks.ensures, c.from-spare.ensures, c.spare.ensures, c.requires.codewords) at
    (in-blocks-mended b c.from-spare.result c.args.codewords.now d.«data».items d.checks.items c.loop-block.message.items
    c.loop-block.changed.items c.args.marks.now _
    (rw c.blocks-blocks.ensures (c.requires.codewords ∙ sym (sizes-whole c.args.version c.args.level (omega arith) (omega arith))))
    c.in_ok-received.ensures i.marks
    (rw all at i.so_far))

pub returns-clause-corrections : goal.returns-clause-corrections
returns-clause-corrections c =
    let i = c.loop-block.invariant in
    let b = c.blocks-blocks.result in
    let all : c.loop-block.block ≡ block_count (data_sizes b) = omega (arith, ap block_count c.of_data.ensures) in
    record {
      long = rw (all, c.blocks-blocks.ensures) at i.so_far.long ∙ data-sizes-whole c.args.version c.args.level (omega arith) (omega arith);
      checks = rw (all, c.blocks-blocks.ensures) at i.checks;
    }

pub returns-in_default-clause-refused : goal.returns-in_default-clause-refused
returns-in_default-clause-refused c = λ e message changed h.
    let i = c.loop-block.invariant in
    let b = c.blocks-blocks.result in
    let d = c.in_ok-received.received in
    none-in-blocks b c.from-spare.result c.args.codewords.now d.«data».items d.checks.items c.args.marks.now _
    c.in_ok-received.ensures i.marks
    (none-mended b c.from-spare.result d.«data».items d.checks.items _ c.loop-block.block c.new-divisor.result
    c.in_ok-mended.mended.items (record {
      divisor = i.divisor;
      within = omega (arith, ap block_count c.of_data.ensures);
      value = c.in_ok-mended.ensures.value;
      long = c.in_ok-mended.ensures.len;
    })
    (rw (c.as_mut_slice.ensures.value, c.deref.ensures.value, c.in_ok-erased.ensures) at c.in_default.ensures.refused))
    message changed
    (rw (← c.blocks-blocks.ensures, ← c.spare.ensures, ← c.from-spare.ensures, ← c.requires.codewords) at h)
