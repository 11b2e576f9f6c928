use Rattle.qr_bits.proofs.Facts.{least-most, least_fits}
use Rattle.qr_symbol.proofs.lemmas.encoding.{boosted-found, highest-fits, refused-again, refused-only, symbol-back, symbol-found, version-fits}
use Rattle.{qr_symbol.proofs.lemmas.version_choice.version-short, std.proofs.{Common.{arith, rules}, lemmas.Result.{err_from_is_err_and, MatchResult-weaker}}}
use Rattle.qr_symbol.proofs.encoding.encode_as.Goals as goal

pub returns-in_err-fit : goal.returns-in_err-fit
returns-in_err-fit c =
    let p = err_from_is_err_and c.from_residual.result c.from_residual.ensures.1 in
    let told = refused-again _ _ _ _ _ _ c.in_err-fit.ensures.refused in rw (p.1, p.2) (record {
      symbol = tt;
      boosted = tt;
      read = tt;
      empty = told.empty;
      too_long = told.too_long;
      long = told.long;
      fault = told.fault;
    })

pub level_for-level-requires : goal.level_for-level-requires
level_for-level-requires c = let fit = c.in_ok-fit.ensures.fit in record {
  covered = (least_fits _ _ _ _ _ _ fit.chosen).0;
  short = omega (arith, least-most _ _ _ _ _ _ fit.chosen, version-short _ _ _ _ _ (omega arith) fit.version.most fit.version.fits);
  room = version-fits _ _ _ _ _ _ _ (omega arith) fit.version.most fit.chosen fit.version.fits;
}

pub symbol_at-requires-clause-room : goal.symbol_at-requires-clause-room
symbol_at-requires-clause-room c = search rules

pub returns : goal.returns
returns c =
    let fit = c.in_ok-fit.ensures.fit in
    let level = c.level_for-level.ensures in
    let r = c.symbol_at.result in
    let made = MatchResult-weaker r c.symbol_at.ensures (λ s of_rule. of_rule c.args.writing.rule c.args.input.now fit.chosen) (λ e _. tt) in
    let refused = MatchResult-weaker r c.symbol_at.ensures (λ s _. tt) (λ e memory. memory) in
    let told = refused-only _ _ _ _ _ _ _ r c.in_ok-fit.ensures.refused fit.version refused in record {
      symbol = symbol-found _ _ _ _ _ _ _ _ r fit.version level.same made;
      boosted = boosted-found _ _ _ _ _ _ _ _ r fit.version
          (λ boost. highest-fits _ c.args.asked.least.level _ _ _ _ _ _ (omega arith) fit.version.most fit.chosen level.least level.room (level.highest boost)) made;
      read = symbol-back _ _ _ _ _ _ (omega arith) fit.version.most c.requires.written made;
      empty = told.empty;
      too_long = told.too_long;
      long = told.long;
      fault = told.fault;
    }
