use Rattle.{qr_bits.proofs.Facts.{may_write-drop, may_write-take}, qr_symbol.proofs.lemmas.encoding.behind-header}
use Rattle.qr_symbol.{proofs.lemmas.series.PartLemmas.{lengths-at, symbols-more}, specs.{Series.AreSymbolsFrom, Steps.Series.parts_of}}
use Rattle.std.proofs.{Common.{rules, ◌≡◌, get_or, [], ◌∷◌, drop, length, ◌∙◌, ap, length-append, arith}, lemmas.Grind.common_steps}
use Rattle.std.proofs.lemmas.{List.{append-nil, drop_all, length-drop}, Result.err_from_is_err_and}
use Rattle.qr_symbol.proofs.series.symbols_on.Goals as goal

pub split_at-requires : goal.split_at-requires
split_at-requires c = let next = lengths-at _ _ _ _ _ _ _ c.loop-len-test.true c.loop-len.invariant.rest in next.0.inside

pub segments-requires-clause-written : goal.segments-requires-clause-written
segments-requires-clause-written c = grind (arith, common_steps, may_write-take)

pub symbol_on-requires-clause-room : goal.symbol_on-requires-clause-room
symbol_on-requires-clause-room c =
    let inv = c.loop-len.invariant in
    let next = lengths-at _ _ _ _ _ _ _ c.loop-len-test.true inv.rest in
    rw (inv.version, inv.level) (behind-header _ _ _ _ _ _ _ (record { position = 0; last = 0; parity = 0 }) (omega arith) (omega arith) c.in_ok-segmented.ensures.ok (rw c.split_at.ensures.front next.0.fits))

pub loop-len-preserved : goal.loop-len-preserved
loop-len-preserved c =
    let l = c.args.canvas.now.level in let rest = c.loop-len.rest.now in
    let ns = c.args.lengths.now in let i = c.loop-len.len-index in
    let inv = c.loop-len.invariant in
    let s = c.in_ok-symbol.symbol in
    let made = rw (inv.version, inv.level, c.len.ensures, inv.count, c.parity-parity.ensures, c.split_at.ensures.front) at
    (c.in_ok-symbol.ensures.made c.args.writing.rule c.split_at.result.0.now (rw inv.version c.in_ok-segmented.ensures.ok)) in
    let less = length-drop (get_or ns i 0) rest in rw (c.in_ok-push.ensures.items, c.split_at.ensures.back) (record {
      version = c.symbol_on.ensures.kept_version ∙ inv.version;
      level = c.symbol_on.ensures.kept_level ∙ inv.level;
      short = omega (arith, inv.short);
      may = search (rules, may_write-drop);
      count = omega (arith, ap length c.in_ok-push.ensures.items, length-append c.loop-len.symbols.items (s ∷ []));
      rest = (lengths-at c.args.canvas.now.version l c.args.writing.rule c.args.writing.interpretation _ ns i c.loop-len-test.true inv.rest).1;
      made = symbols-more c.args.canvas.now.version l c.args.writing.rule c.args.writing.interpretation _ _ i _ ns _ _ s c.loop-len-test.true made inv.made;
    })

pub returns : goal.returns
unfolding AreSymbolsFrom parts_of
returns c =
    let ns = c.args.lengths.now in
    let none : drop c.loop-len.len-index ns ≡ [] = drop_all _ ns c.loop-len-test.false in
    let all = c.loop-len.invariant.made [] (search arith) in rw append-nil at all

pub returns-in_err-symbol : goal.returns-in_err-symbol
returns-in_err-symbol c = grind (arith, common_steps, err_from_is_err_and)

pub returns-in_err-push : goal.returns-in_err-push
returns-in_err-push c = grind (arith, common_steps, err_from_is_err_and)
