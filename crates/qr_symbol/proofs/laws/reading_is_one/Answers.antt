use Rattle.{qr_symbol.proofs.lemmas.reading.ReadLemmas.{read-some, read-one, message-one}, std.proofs.Common.rules}
use Rattle.qr_symbol.proofs.laws.reading_is_one.Goals as goal

pub returns : goal.returns
returns c = record {
  some = search (rules, read-some);
  codewords = read-one _;
  message = search (rules, message-one);
}
