use Rattle.std.proofs.Common.{◌/◌, ◌%◌, ◌∷◌, []}
use Rattle.qr_images.specs.Packing.{runs_from}
use Rattle.qr_images.proofs.lemmas.runs.{went-last}
use Rattle.qr_images.proofs.runs.put_byte.Goals as goal

pub returns : goal.returns
returns g c =
    went-last _ _ _ _ _ _ _ _ _ (runs_from c.args.run.now.digit c.args.run.now.count) (runs_from c.put_digit.new.run.digit c.put_digit.new.run.count)
    (runs_from c.put_digit-2.new.run.digit c.put_digit-2.new.run.count) (c.args.byte / 16 ∷ []) (c.args.byte % 16 ∷ []) c.put_digit-2.result c.in_ok-put_digit.ensures c.put_digit-2.ensures
