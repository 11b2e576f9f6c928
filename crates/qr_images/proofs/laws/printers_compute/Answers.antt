use Rattle.std.proofs.Common.{refl}
use Rattle.qr_images.specs.{EscPos.{print, printed}, Image.repeated, Labels.{after, number_before}, Pbm.leading, Png.same, Tspl.bitmap_command, Zpl.{bytes_of, count_of, digit_of, read_byte, read_bytes, zpl_label}}
use Rattle.qr_images.proofs.laws.printers_compute.Goals as goal

pub returns : goal.returns
unfolding print printed repeated after number_before leading same bitmap_command bytes_of count_of digit_of read_byte read_bytes zpl_label
returns c = record { escpos = refl; bands = refl; tspl = refl; zpl = refl; short = refl; unequal = refl; far = refl }
