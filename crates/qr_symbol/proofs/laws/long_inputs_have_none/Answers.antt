use Rattle.qr_symbol.proofs.lemmas.series.{PartExistenceLemmas.long-refused, SeriesLemmas.{long-fits-none, long-has-no-series}}
use Rattle.std.proofs.Common.{rules, arith}
use Rattle.qr_symbol.proofs.laws.long_inputs_have_none.Goals as goal

pub returns : goal.returns
returns c = record {
  symbol = λ x l b how long. long-fits-none x l c.args.version b how (omega arith) (omega arith);
  series = search (rules, long-has-no-series);
  refused = search (rules, long-refused);
}
