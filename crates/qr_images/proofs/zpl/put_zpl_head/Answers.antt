use Rattle.qr_devices.proofs.Facts.{formed}
use Rattle.qr_images.proofs.lemmas.printing.{zpl-head-is}
use Rattle.qr_images.proofs.zpl.put_zpl_head.Goals as goal

pub returns : goal.returns
returns g c =
    formed _ _ _ _ _ _ _ _ c.in_ok-reserve.ensures.writes
    (zpl-head-is c.args.settings.now.left c.args.settings.now.top c.args.total c.args.stride _ _ _ _ _ _ _ (rw c.from.ensures at c.push_number.ensures.items) (rw c.from-2.ensures at c.push_number-2.ensures.items)
    c.push_number-3.ensures.items c.push_number-4.ensures.items c.push_number-5.ensures.items c.push_all.ensures.items)
