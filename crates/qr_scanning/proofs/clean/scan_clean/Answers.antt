use Rattle.std.proofs.Common.{rules, ◌≡◌}
use Rattle.qr_scanning.proofs.lemmas.clean.{one-shown}
use Rattle.qr_scanning.specs.Scanning.{pixels_in}
use Rattle.qr_scanning.proofs.clean.scan_clean.Goals as goal

pub returns-clause-symbol : goal.returns-clause-symbol
returns-clause-symbol c =
    let same : c.in-Some.pixels ≡ pixels_in c.args.picture.now = search rules in
    let clean = c.in-Some-clean_square.ensures in
    one-shown c.args.picture.now c.in-Some-clean_square.square clean.0 c.scan_square.result c.clean_pictures_are_one.ensures (rw same at clean.1) c.scan_square.ensures.symbol
