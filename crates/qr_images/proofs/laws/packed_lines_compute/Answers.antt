use Rattle.std.proofs.Common.{refl}
use Rattle.qr_images.specs.{Image.repeated, Zpl.{count_of, digit_of, read_byte, read_bytes}}
use Rattle.qr_images.proofs.laws.packed_lines_compute.Goals as goal

pub returns : goal.returns
unfolding repeated count_of digit_of read_byte read_bytes
returns c = record { signs = refl; many = refl; over = refl; above = refl; part = refl }
