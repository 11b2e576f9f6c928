use Rattle.{std.proofs.Common.rules, qr_devices.proofs.lemmas.pen.copied}
use Rattle.qr_devices.proofs.pen.Piece.push_first.Goals as goal

pub returns-clause-items : goal.returns-clause-items
returns-clause-items g c = search (rules, copied)
