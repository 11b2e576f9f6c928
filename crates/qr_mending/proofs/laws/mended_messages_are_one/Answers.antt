use Rattle.{std.proofs.Common.arith, qr_mending.proofs.lemmas.mending.mended-one}
use Rattle.qr_mending.proofs.laws.mended_messages_are_one.Goals as goal

pub returns : goal.returns
returns c = λ unknown. mended-one unknown c.args.version c.args.level (omega arith) (omega arith)
