use Rattle.std.proofs.{Common.sym, Common.◌∙◌, Common.arith, lemmas.Result.err_from_is_err_and}
use Rattle.qr_bits.proofs.lemmas.parsing.{ParsingLemmas.{behind-more, behind-none, not_ended, item-shorter, fault-all, end-all}}
use Rattle.qr_bits.proofs.parsing.items.Goals as goal

pub loop-reader-init : goal.loop-reader-init
loop-reader-init c = rw (c.new-items.ensures.items, c.new-characters.ensures.items) (behind-none _)

pub returns-in_err-next : goal.returns-in_err-next
returns-in_err-next c =
    let p = err_from_is_err_and c.from_residual.result c.from_residual.ensures.1 in
    let open_ = sym c.ends.ensures ∙ c.loop-reader-test.true in
    rw (p.1, p.2) (fault-all c.args.version c.loop-reader.may c.loop-reader.reader c.args.reader c.loop-reader.items.items c.loop-reader.characters.items _ open_ c.in_err-next.ensures c.loop-reader.invariant)

pub loop-reader-preserved : goal.loop-reader-preserved
loop-reader-preserved c =
    let s = c.in_ok-next.ensures in
    let more = behind-more c.args.version c.loop-reader.may c.loop-reader.reader c.item.new.reader c.loop-reader.items.items c.loop-reader.characters.items s.0 _ (sym c.ends.ensures ∙ c.loop-reader-test.true) s.1 in
    rw (c.in_ok-push.ensures.items, s.2, c.may_follow-may.ensures) (sym more) ∙ c.loop-reader.invariant

pub loop-reader-smaller : goal.loop-reader-smaller
loop-reader-smaller c =
    let open_ = not_ended _ (sym c.ends.ensures ∙ c.loop-reader-test.true) in
    omega (arith, item-shorter _ _ _ _ open_ c.in_ok-next.ensures.1)

pub returns : goal.returns
returns c = end-all c.args.version c.loop-reader.may c.loop-reader.reader c.args.reader c.loop-reader.items.items c.loop-reader.characters.items (sym c.ends.ensures ∙ c.loop-reader-test.false) c.loop-reader.invariant
