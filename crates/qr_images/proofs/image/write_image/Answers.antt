use Rattle.qr_images.proofs.lemmas.png.{file-escpos, file-pbm, file-png, file-tspl, file-zpl, image-written}
use Rattle.qr_images.proofs.image.write_image.Goals as goal

pub returns-in-Png : goal.returns-in-Png
returns-in-Png g c = rw (file-png c.args.settings.now.format c.args.settings.now c.args.square.now c.in-Png.is) (image-written _ _ _ c.write_png.result c.write_png.ensures)

pub returns-in-Pbm : goal.returns-in-Pbm
returns-in-Pbm g c = rw (file-pbm c.args.settings.now.format c.args.settings.now c.args.square.now c.in-Pbm.is) (image-written _ _ _ c.write_pbm.result c.write_pbm.ensures)

pub returns-in-EscPos : goal.returns-in-EscPos
returns-in-EscPos g c = rw (file-escpos c.args.settings.now.format c.args.settings.now c.args.square.now c.in-EscPos.is) (image-written _ _ _ c.write_escpos.result c.write_escpos.ensures)

pub returns-in-Tspl : goal.returns-in-Tspl
returns-in-Tspl g c = rw (file-tspl c.args.settings.now.format c.args.settings.now c.args.square.now c.in-Tspl.is) (image-written _ _ _ c.write_tspl.result c.write_tspl.ensures)

pub returns-in-Zpl : goal.returns-in-Zpl
returns-in-Zpl g c = rw (file-zpl c.args.settings.now.format c.args.settings.now c.args.square.now c.in-Zpl.is) (image-written _ _ _ c.write_zpl.result c.write_zpl.ensures)
