-- The texts of the places of a raster, and the raster of a square with a light margin (ISO/IEC 18004:2015, 6.3.8).
use Rattle.std.specs.Prelude.{ℕ, List}
use Rattle.std.specs.List.{flat_map, range_with_len}
unfoldable pub use Rattle.qr_matrix.specs.Raster.{is_dark_at}
pub use Rattle.qr_matrix.specs.Raster.{raster_width}

-- The texts `text 0` to `text (n - 1)`, one after the other [own]
unfoldable pub texts_below : ℕ → (ℕ → List ℕ) → List ℕ
texts_below n text = flat_map text (range_with_len 0 n)
