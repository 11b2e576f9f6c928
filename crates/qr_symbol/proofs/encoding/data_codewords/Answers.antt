use Rattle.{qr_bits.proofs.Facts.covered-short, std.proofs.{Common.rules, lemmas.Result.err_from_is_err_and}}
use Rattle.qr_symbol.proofs.encoding.data_codewords.Goals as goal

pub codewords-requires-clause-short : goal.codewords-requires-clause-short
codewords-requires-clause-short c = search (rules, covered-short)

pub returns-in_err-codewords : goal.returns-in_err-codewords
returns-in_err-codewords c = search (rules, err_from_is_err_and)
