-- The command `BITMAP` of TSPL, the language of TSC's label printers, read into what it prints. A file that has other
-- commands, or white space that the command does not need, is read as `None`.
use Rattle.std.specs.Prelude.{ℕ, ◌-◌, ◌*◌, ◌&&◌, nat_le, if◌then◌else◌, List, map, take, drop, codes, Option, Some, None}
use Rattle.qr_images.specs.Bits.{◌>>=◌}
use Rattle.qr_images.specs.Labels.{Label, after, number_before}
use Rattle.qr_images.specs.Png.{same}

-- The label that a file prints: `BITMAP`, the place of the bitmap, the number of bytes of a line, the number of lines,
-- and the mode 0, in which the bitmap is printed over what lies there. Then come the lines from the top down and the
-- end of the command. A byte has eight dots, the left one in its highest bit, and 0 is black. So the bits are inverted
-- here (TSPL, BITMAP)
unfoldable pub bitmap_command : List ℕ → Option Label
bitmap_command bytes =
    after (codes "BITMAP ") bytes >>= λ start. number_before (codes ",") start >>= λ left. number_before (codes ",") left.1 >>= λ top.
    number_before (codes ",") top.1 >>= λ stride. number_before (codes ",0,") stride.1 >>= λ count.
    let n = count.0 * stride.0 in
    if nat_le 1 stride.0 && (nat_le 1 count.0 && same (drop n count.1) (codes "\r\n"))
    then Some (record { left = left.0; top = top.0; bitmap = record { width = 8 * stride.0; height = count.0; lines = map (λ b. 255 - b) (take n count.1) } })
    else None
