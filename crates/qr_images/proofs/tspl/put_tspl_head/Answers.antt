use Rattle.std.proofs.{lemmas.Result.err_from_is_err_and}
use Rattle.qr_devices.proofs.Facts.{formed, stops-before}
use Rattle.qr_images.proofs.lemmas.printing.{tspl-head-is}
use Rattle.qr_images.proofs.tspl.put_tspl_head.Goals as goal

pub returns-in_err-reserve : goal.returns-in_err-reserve
returns-in_err-reserve g c = rw ((err_from_is_err_and c.from_residual.result c.from_residual.ensures.1).1) (stops-before _ _ _ _ _ c.in_err-reserve.ensures.writes)

pub returns : goal.returns
returns g c =
    formed _ _ _ _ _ _ _ _ c.in_ok-reserve.ensures.writes
    (tspl-head-is c.args.settings.now.left c.args.settings.now.top c.args.stride c.args.count _ _ _ _ _ _ (rw c.from.ensures at c.push_number.ensures.items) (rw c.from-2.ensures at c.push_number-2.ensures.items)
    c.push_number-3.ensures.items c.push_number-4.ensures.items c.push_all.ensures.items)
