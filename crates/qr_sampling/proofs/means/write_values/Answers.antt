use Rattle.qr_sampling.proofs.lemmas.{means.value-sharp, tables.table-same}
use Rattle.qr_sampling.specs.{Brightness.shown, Sampling.{mean_at, sharpened, value_at}}
use Rattle.qr_sampling.proofs.means.write_values.Goals as goal

pub returns-then-how : goal.returns-then-how
returns-then-how c =
    let how = c.args.how.now in
    let means = mean_at (shown c.args.picture.now) how.map how.reach in
    table-same how.side (sharpened how.side means) (value_at (shown c.args.picture.now) how) c.write_sharpened.new.sharp
    (value-sharp (shown c.args.picture.now) how c.if-how.true) (c.write_sharpened.ensures means c.write_means.ensures)
