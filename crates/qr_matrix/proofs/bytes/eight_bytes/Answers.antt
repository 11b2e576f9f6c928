use Rattle.{qr_matrix.proofs.lemmas.bytes.spread-bytes, std.proofs.Common.rules}
use Rattle.qr_matrix.proofs.bytes.eight_bytes.Goals as goal

pub returns : goal.returns
returns c = search (rules, spread-bytes)
