use Rattle.qr_sampling.proofs.lemmas.tables.{entry-is}
use Rattle.std.proofs.Common.{◌+◌, ◌*◌, refl}
use Rattle.qr_sampling.proofs.means.entry.Goals as goal

pub returns : goal.returns
returns c f is =
    entry-is c.args.side f c.args.values.now c.args.column c.args.row (c.args.row * c.args.side + c.args.column) is c.requires.column_in c.requires.row_in refl
