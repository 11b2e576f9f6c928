-- What the code does step by step. Only private contracts use these definitions.
use Rattle.std.specs.Prelude.{◌≡◌, ◌≢◌, ◌⊎◌, ℕ, ◌+◌, ◌-◌, ◌*◌, ◌%◌, ◌<◌, ◌≤◌, Bool, ◌||◌, not, ◌==◌, if◌then◌else◌, List, length, slice_index_or}
use Rattle.qr_layout.specs.Region.{ring_of}
use Rattle.qr_pictures.specs.Finders.{HasFinder}
use Rattle.qr_pictures.specs.Pixels.{Pixels, drawn_grey, grey}
use Rattle.qr_pictures.specs.declared.frame.Frame.{Frame}
use Rattle.qr_pictures.specs.declared.turn.Turn.{Turn}
use Rattle.qr_pictures.specs.declared.turn.Turn.TheVariants.{Upright, Quarter, Half, ThreeQuarters}

-- All bytes of the list from index `from` to index `end - 1` are `value`
pub record AreAll (line : List ℕ) (from end value : ℕ) : Type 0 where
  pub each : (x : ℕ) → from ≤ x → x < end → slice_index_or line x 0 ≡ value

-- The colours of the square that is in the picture, if the frame is right: a module is dark if its upper left pixel has
-- the grey value of dark modules
abbrev pub sampled : Pixels → Frame → ℕ → ℕ → Bool
sampled p f r c = grey p (f.top + r * f.scale) (f.left + c * f.scale) == f.dark

-- Row `y` of the picture is as the drawing of the modules that are in the picture
pub record IsRowDrawn (p : Pixels) (f : Frame) (y : ℕ) : Type 0 where
  pub pixels : (x : ℕ) → x < p.width → grey p y x ≡ drawn_grey f (sampled p f) y x

-- The pixels from index `at` on are a row of a module: `f.scale` pixels in one of the two grey values
pub record IsModule (f : Frame) (line : List ℕ) (at : ℕ) : Type 0 where
  pub one : (k : ℕ) → k < f.scale → slice_index_or line (at + k) 0 ≡ (if slice_index_or line at 0 == f.dark then f.dark else f.light)

-- The pixels of the first `n` modules in a row of pixels are rows of modules
pub record AreModules (f : Frame) (line : List ℕ) (n : ℕ) : Type 0 where
  pub each : (c : ℕ) → c < n → IsModule f line (f.left + c * f.scale)

-- A row of pixels shows a row of modules between two margins
pub record IsLineDrawn (f : Frame) (line : List ℕ) : Type 0 where
  pub before : AreAll line 0 f.left f.light
  pub after : AreAll line (f.left + f.side * f.scale) (length line) f.light
  pub modules : AreModules f line f.side

-- `one` is the grey value of the first pixel, and `other` is another one that is in the picture
pub record HasGreys (p : Pixels) (one other : ℕ) : Type 0 where
  pub first : one ≡ grey p 0 0
  pub differ : other ≢ one
  pub row : ℕ
  pub col : ℕ
  pub row_in : row < p.height
  pub col_in : col < p.width
  pub second : other ≡ grey p row col

-- The side is that of a symbol
pub record IsSide (side : ℕ) : Type 0 where
  pub least : 21 ≤ side
  pub most : side ≤ 177
  pub step : side % 4 ≡ 1

-- A run of `w` bytes that are `value` begins at index `from`, and a byte with another value comes after it
pub record BeginsWith (line : List ℕ) (from w value : ℕ) : Type 0 where
  pub run : AreAll line from (from + w) value
  pub inside : from + w < length line
  pub other : slice_index_or line (from + w) 0 ≢ value

-- A run of `w` bytes that are `value` ends before index `end`, and a byte with another value comes before it
pub record EndsWith (line : List ℕ) (end w value : ℕ) : Type 0 where
  pub run : AreAll line (end - w) end value
  pub inside : w < end
  pub other : slice_index_or line (end - w - 1) 0 ≢ value

-- Of the upper left, the upper right and the lower left end of the first and the last row of a square, at least two are
-- edges of finder patterns, which have a width of `w` pixels
abbrev pub HasThreeEnds : List ℕ → List ℕ → ℕ → ℕ → ℕ → ℕ → Type 0
HasThreeEnds first last left right w dark =
    (EndsWith first right w dark × BeginsWith last left w dark)
    ⊎ ((BeginsWith first left w dark × EndsWith first right w dark) ⊎ (BeginsWith first left w dark × BeginsWith last left w dark))

-- The module in row `r` and column `c` is as in a finder pattern whose middle is in row `a` and column `b`, unless it is
-- outside of it
pub record IsFinderModule (dark : ℕ → ℕ → Bool) (a b r c : ℕ) : Type 0 where
  pub ring : ring_of a b r c ≤ 4 → dark r c ≡ not (ring_of a b r c == 2 || ring_of a b r c == 4)

-- Row `r` of the square is as in a finder pattern whose middle is in row `a` and column `b`, as far as it is in it
pub record IsFinderRow (side : ℕ) (dark : ℕ → ℕ → Bool) (a b r : ℕ) : Type 0 where
  pub each : (c : ℕ) → c < side → IsFinderModule dark a b r c

-- What the finder patterns of the square in the picture are if the symbol has been turned by `t`. `dark r c` is the
-- colour of a module in the picture
abbrev pub IsTurn : ℕ → (ℕ → ℕ → Bool) → Turn → Type 0
IsTurn side dark Upright = HasFinder side dark 3 3 × HasFinder side dark 3 (side - 4) × HasFinder side dark (side - 4) 3
IsTurn side dark Quarter = HasFinder side dark 3 3 × HasFinder side dark 3 (side - 4) × (HasFinder side dark (side - 4) 3 → ⊥) × HasFinder side dark (side - 4) (side - 4)
IsTurn side dark Half = (HasFinder side dark 3 3 → ⊥) × HasFinder side dark 3 (side - 4) × HasFinder side dark (side - 4) 3 × HasFinder side dark (side - 4) (side - 4)
IsTurn side dark ThreeQuarters = HasFinder side dark 3 3 × (HasFinder side dark 3 (side - 4) → ⊥) × HasFinder side dark (side - 4) 3 × HasFinder side dark (side - 4) (side - 4)

-- The turn that turns a square back
abbrev pub back : Turn → Turn
back Upright = Upright
back Quarter = ThreeQuarters
back Half = Half
back ThreeQuarters = Quarter
