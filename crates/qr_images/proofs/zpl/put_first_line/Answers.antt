use Rattle.std.proofs.Common.{sym}
use Rattle.qr_images.proofs.lemmas.runs.{first-dark, first-light}
use Rattle.qr_images.proofs.zpl.put_first_line.Goals as goal

pub returns-then-has_dark : goal.returns-then-has_dark
returns-then-has_dark g c = rw (first-dark c.args.settings.now c.args.square.now c.args.row (sym c.if-has_dark.ensures)) c.put_packed_line.ensures

pub returns : goal.returns
returns g c = rw (first-light c.args.settings.now c.args.square.now c.args.row (sym c.if-has_dark.ensures)) c.put_text.ensures
