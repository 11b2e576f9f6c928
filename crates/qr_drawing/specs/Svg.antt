-- The SVG document of symbols, drawn one below the other. `y` and `x` are a row and a column of the raster of the
-- square `g` with the margin `margin`, and `top` is the number of rows of the document above this raster. In
-- `box_path`, `y` and `x` are a row and a column of the document.
use Rattle.std.specs.Prelude.{ℕ, ◌+◌, ◌-◌, ◌*◌, ◌==◌, Bool, not, ◌&&◌, ◌||◌, if◌then◌else◌, List, [], ◌++◌, length, slice_index_or, codes, decimal}
use Rattle.std.specs.List.{prefix_len, range_with_len}
use Rattle.qr_matrix.specs.Grid.{Grid, light}
use Rattle.qr_matrix.specs.Raster.{is_dark_at, raster_width}
use Rattle.qr_drawing.specs.Raster.{texts_below}

-- The characters `text`, followed by the decimal digits of `number` [own]
unfoldable pub numbered : List ℕ → ℕ → List ℕ
numbered text number = text ++ decimal number

-- A run of dark modules begins in row `y` and column `x`: the module there is dark, and the one to its left is light or
-- outside the raster [own]
unfoldable pub begins_run : ℕ → Grid → ℕ → ℕ → Bool
begins_run margin g y x = is_dark_at margin g y x && (x == 0 || not (is_dark_at margin g y (x - 1)))

-- How many modules of row `y` are dark from column `x` on, until the first light one or the right edge of the raster
-- [own]
unfoldable pub run_length : ℕ → Grid → ℕ → ℕ → ℕ
run_length margin g y x = prefix_len (is_dark_at margin g y) (range_with_len x (raster_width margin g - x))

-- A box as commands of an SVG path. The path begins at the upper left corner of the module in row `y` and column `x` of
-- the document. It goes right by `modules` modules, down by one and left by `modules` modules, and is closed [own]
unfoldable pub box_path : ℕ → ℕ → ℕ → List ℕ
box_path x y modules =
    numbered (codes "M") x ++ numbered (codes " ") y ++ numbered (codes "h") modules ++ numbered (codes "v1h-") modules
    ++ codes "z"

-- The box around the run that begins in row `y` and column `x` of the raster. If no run begins there, the result is
-- empty [own]
unfoldable pub run_path : ℕ → ℕ → Grid → ℕ → ℕ → List ℕ
run_path top margin g y x =
    if begins_run margin g y x then box_path x (top + y) (run_length margin g y x) else []

-- The boxes of the runs of row `y`, from left to right [own]
unfoldable pub row_path : ℕ → ℕ → Grid → ℕ → List ℕ
row_path top margin g y = texts_below (raster_width margin g) (run_path top margin g y)

-- The boxes of all runs of a raster, row by row from the top [own]
unfoldable pub symbol_path : ℕ → ℕ → Grid → List ℕ
symbol_path top margin g = texts_below (raster_width margin g) (row_path top margin g)

-- The square with the index `k`, or one without modules if the list has no such index [own]
abbrev pub square_at : List Grid → ℕ → Grid
square_at squares k = slice_index_or squares k (light 0)

-- The boxes of all symbols, whose rasters are below one another. The definition is used for squares of one side, so all
-- rasters are equally high. Above the raster with the index `k`, counted from 0, there are `k` times as many rows as
-- one raster has [own]
unfoldable pub stack_path : ℕ → List Grid → List ℕ
stack_path margin squares =
    texts_below (length squares) (λ k. symbol_path (k * raster_width margin (square_at squares k)) margin (square_at squares k))

-- The first line, which declares that the document is XML [own]
unfoldable pub declaration : List ℕ
declaration = codes "<?xml version=\"1.0\" encoding=\"UTF-8\"?>\n"

-- The line that opens a document that is `width` modules wide and `height` modules high [own]
unfoldable pub opening : ℕ → ℕ → List ℕ
opening width height =
    numbered (codes "<svg xmlns=\"http://www.w3.org/2000/svg\" version=\"1.1\" viewBox=\"0 0 ") width
    ++ numbered (codes " ") height ++ codes "\" shape-rendering=\"crispEdges\">\n"

-- The line that makes the whole document white. The document is `width` modules wide and `height` modules high [own]
unfoldable pub background : ℕ → ℕ → List ℕ
background width height =
    numbered (codes "<rect x=\"0\" y=\"0\" width=\"") width ++ numbered (codes "\" height=\"") height
    ++ codes "\" fill=\"#ffffff\"/>\n"

-- The line that makes the dark modules of all symbols black, by one path of boxes [own]
unfoldable pub foreground : ℕ → List Grid → List ℕ
foreground margin squares = codes "<path fill=\"#000000\" d=\"" ++ stack_path margin squares ++ codes "\"/>\n"

-- The line that closes the document [own]
unfoldable pub closing : List ℕ
closing = codes "</svg>\n"

-- The end of the line with the path, and the last line [own]
unfoldable pub tail : List ℕ
tail = codes "\"/>\n" ++ closing

-- The SVG document of symbols of equal size, one below the other. It is as wide as one raster, and as high as all
-- rasters together [own]
unfoldable pub svg_document : ℕ → List Grid → List ℕ
svg_document margin squares =
    let width = raster_width margin (square_at squares 0) in
    let height = width * length squares in
    declaration ++ opening width height ++ background width height ++ foreground margin squares ++ closing
