use Rattle.{qr_theorems.proofs.lemmas.laws.SeriesLemmas.{damaged-joined, mended-to}, qr_symbol.{proofs.Facts.series-joined, specs.Series.squares_of}}
use Rattle.qr_theorems.proofs.laws.damaged_series_are_mended.Goals as goal

pub returns : goal.returns
returns c =
    let ds = c.args.damaged.now in
    record {
      series = λ v l rule how x ss least most may s near. mended-to (λ b. b.items) ds x c.mend_series.result (damaged-joined ds (squares_of ss) x near (series-joined x l rule how v ss least most may s)) c.mend_series.ensures;
      joined = λ whole x s near. mended-to (λ b. b.items) ds x c.mend_series.result (damaged-joined ds whole x near s) c.mend_series.ensures;
    }
