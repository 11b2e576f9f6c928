use Rattle.std.proofs.lemmas.Result.{err_from_is_err_and}
use Rattle.qr_devices.proofs.Facts.{formed, stops-before}
use Rattle.qr_images.proofs.texts.put_text.Goals as goal

pub returns-in_err-reserve : goal.returns-in_err-reserve
returns-in_err-reserve g c = rw ((err_from_is_err_and c.from_residual.result c.from_residual.ensures.1).1) (stops-before _ _ _ _ _ c.in_err-reserve.ensures.writes)

pub returns : goal.returns
returns g c = formed _ _ _ _ _ _ _ _ c.in_ok-reserve.ensures.writes c.push_all.ensures.items
