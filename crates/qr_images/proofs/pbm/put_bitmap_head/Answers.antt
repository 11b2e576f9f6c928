use Rattle.std.{proofs.{Common.{◌≡◌, rules}, lemmas.Result.err_from_is_err_and}, specs.Prelude.decimal}
use Rattle.qr_devices.proofs.Facts.{formed, stops-before}
use Rattle.qr_images.proofs.lemmas.pbm.{head-is}
use Rattle.qr_images.proofs.pbm.put_bitmap_head.Goals as goal

pub returns-in_err-reserve : goal.returns-in_err-reserve
returns-in_err-reserve g c = rw ((err_from_is_err_and c.from_residual.result c.from_residual.ensures.1).1) (stops-before _ _ _ _ _ c.in_err-reserve.ensures.writes)

pub returns : goal.returns
returns g c =
    let number : c.as_bytes-number.result.now ≡ decimal c.args.width = search rules in
    formed _ _ _ _ _ _ _ _ c.in_ok-reserve.ensures.writes
    (head-is c.args.width _ _ _ _ _ _ c.push_all.ensures.items (rw number at c.push_all-2.ensures.items) c.push_all-3.ensures.items (rw number at c.push_all-4.ensures.items) c.push_all-5.ensures.items)
