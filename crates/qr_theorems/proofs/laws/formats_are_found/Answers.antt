use Rattle.{qr_mending.proofs.Facts.{alone-format, sure-format}, std.proofs.Common.rules}
use Rattle.qr_theorems.proofs.laws.formats_are_found.Goals as goal

pub returns : goal.returns
returns c = search (rules, sure-format, alone-format)
