use Rattle.{std.proofs.Common.arith, qr_mending.proofs.lemmas.message.LightLemmas.no-marks}
use Rattle.qr_mending.proofs.message.read_marks.Goals as goal

pub returns-then-is_light-clause-marks : goal.returns-then-is_light-clause-marks
returns-then-is_light-clause-marks c =
    no-marks c.args.version c.args.unknown.now (omega arith) (omega arith) c.requires
    (rw c.if-is_light.true at c.is_light.ensures)
