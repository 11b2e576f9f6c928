use Rattle.qr_symbol.{proofs.lemmas.joining.headers-next, specs.Joining.HaveHeaders}
use Rattle.std.proofs.{Common.{sym, ◌∙◌, rules}, lemmas.{Bool.false≢true, List.{drop_all, drop_more}}}
use Rattle.qr_symbol.proofs.joining.are_in_series.Goals as goal

pub returns-then-not-has_header : goal.returns-then-not-has_header
returns-then-not-has_header c =
    let next = headers-next _ _ _ _ _ c.loop-position-test.true c.index-contents-position.is in
    (λ e. absurd (false≢true e), λ w. sym c.if-not-has_header.true ∙ c.has_header.ensures.1 (next (c.loop-position.invariant.there w.1)).0)

pub loop-position-preserved : goal.loop-position-preserved
unfolding HaveHeaders
loop-position-preserved c = search (rules, headers-next, drop_more)

pub returns : goal.returns
unfolding HaveHeaders
returns c = search (rules, drop_all)
