-- A bitmap on a label, and the texts and numbers that commands of label printers are made of.
use Rattle.std.specs.Prelude.{ℕ, ◌&&◌, nat_le, if◌then◌else◌, List, length, take, drop, Option, Some, None}
use Rattle.std.specs.List.{slice_index_or}
use Rattle.qr_images.specs.Bits.{◌>>=◌}
use Rattle.qr_images.specs.Pbm.{Bitmap, leading}
use Rattle.qr_images.specs.Png.{same}

-- A bitmap, and the place of its upper left corner on the label in dots: `left` from the left edge, and `top` from the
-- upper edge [own]
pub record Label : Type 0 where
  pub left : ℕ
  pub top : ℕ
  pub bitmap : Bitmap

-- The bytes after the text that they have to begin with [own]
unfoldable pub after : List ℕ → List ℕ → Option (List ℕ)
after text bytes = if same (take (length text) bytes) text then Some (drop (length text) bytes) else None

-- The decimal number that the bytes begin with, and the bytes after it and the text that has to follow [own]
unfoldable pub number_before : List ℕ → List ℕ → Option (ℕ × List ℕ)
number_before text bytes =
    let n = leading 0 bytes in
    if nat_le 48 (slice_index_or bytes 0 0) && nat_le (slice_index_or bytes 0 0) 57
    then (after text n.1 >>= λ rest. Some (n.0, rest)) else None
