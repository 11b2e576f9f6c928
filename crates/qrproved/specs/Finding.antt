-- What `qrproved_find` writes for a picture, and when it writes nothing. The picture has `width` by `height` pixels, a byte for each
-- in `pixels`, and a row begins `stride` bytes after the row above. The modules of square `k` are written from byte k * 31,329 on.
use Rattle.std.specs.Prelude.{◌≡◌, ℕ, ◌+◌, ◌-◌, ◌*◌, ◌<◌, ◌≤◌, ◌⊎◌, min, nat_lt, Bool, true, if◌then◌else◌, List, ◌++◌, drop, length, map, slice_index_or}
use Rattle.std.specs.List.{All}
use Rattle.qr_sampling.specs.Between.{CanBePicture}
use Rattle.qr_sampling.specs.declared.picture.Picture.{Picture}
use Rattle.qr_scanning.specs.Scanning.{AreReadFirst, FindsSymbol, IsScanned}
use Rattle.qr_scanning.specs.declared.scanning.Scanned.{Scanned}
use Rattle.qrproved.specs.declared.finding.QrprovedFound.{QrprovedFound}

-- The numbers are in range [own]
abbrev pub AreFindSettings : (width height stride unread : ℕ) → Type 0
AreFindSettings width height stride unread = CanBePicture width height stride × (unread ≤ 1)

-- The most squares that are written: 64, or as many as `found` has room for [own]
abbrev pub most_found : List QrprovedFound → ℕ
most_found found = min (length found) 64

-- The numbers are in range, but `pixels` has fewer bytes than the rows take, or `modules` has no room for the greatest symbol in
-- each place [own]
pub record LacksFindRoom (pixels : List ℕ) (width height stride unread : ℕ) (modules : List ℕ) (found : List QrprovedFound) : Type 0 where
  pub settings : AreFindSettings width height stride unread
  pub room : length pixels < (height - 1) * stride + width ⊎ length modules < most_found found * 31329

-- The column and the row of a corner [own]
abbrev pub corner_at : List (ℕ × ℕ) → ℕ → ℕ × ℕ
corner_at corners k = slice_index_or corners k (0, 0)

-- By how many quarter turns a symbol is turned clockwise, whose first corner is at `a` and whose second at `b`: the number for the
-- direction that is nearest to the way from `a` to `b` [own]
abbrev pub turns_of : (a b : ℕ × ℕ) → ℕ
turns_of a b =
    if nat_lt ((b.0 - a.0) + (a.0 - b.0)) ((b.1 - a.1) + (a.1 - b.1)) then (if nat_lt a.1 b.1 then 1 else 3)
    else (if nat_lt b.0 a.0 then 2 else 0)

-- The number that tells a caller whether something is so [own]
abbrev pub told : Bool → ℕ
told is = if is then 1 else 0

-- What the struct of a square is [own]
abbrev pub told_found : Scanned → QrprovedFound
told_found s = record {
  x0 = (corner_at s.corners 0).0;
  y0 = (corner_at s.corners 0).1;
  x1 = (corner_at s.corners 1).0;
  y1 = (corner_at s.corners 1).1;
  x2 = (corner_at s.corners 2).0;
  y2 = (corner_at s.corners 2).1;
  x3 = (corner_at s.corners 3).0;
  y3 = (corner_at s.corners 3).1;
  side = s.side;
  quarter_turns = turns_of (corner_at s.corners 0) (corner_at s.corners 1);
  is_inverse = told s.is_inverse;
  is_mirrored = told s.is_mirrored;
  is_read = told s.is_read;
}

-- Square `s` is in the buffer from byte `start` on, and the bytes from its end to byte `start` + 31,328 are unchanged [own]
pub record HoldsScanned (s : Scanned) (start : ℕ) (before after : List ℕ) : Type 0 where
  pub modules : (i : ℕ) → i < length s.modules.items → slice_index_or after (start + i) 0 ≡ slice_index_or s.modules.items i 0
  pub others : (i : ℕ) → length s.modules.items ≤ i → i < 31329 → slice_index_or after (start + i) 0 ≡ slice_index_or before (start + i) 0

-- The squares are in the buffer, each in its place, and the bytes after the last place are unchanged [own]
pub record HoldAllScanned (squares : List Scanned) (before after : List ℕ) : Type 0 where
  pub long : length after ≡ length before
  pub each : (k : ℕ) (d : Scanned) → k < length squares → HoldsScanned (slice_index_or squares k d) (k * 31329) before after
  pub others : (i : ℕ) → length squares * 31329 ≤ i → slice_index_or after i 0 ≡ slice_index_or before i 0

-- Squares that are in the picture were written: their modules to one buffer, and their corners and the other numbers to the other.
-- Those that were read come first, and if only these are asked for, there are no others. If the picture is the drawing of a symbol that
-- can be read, and nothing else, exactly this symbol is found. No square is found exactly if `count` is 0 [own]
pub record IsGivenFound (pixels : List ℕ) (width height stride unread : ℕ) (before after : List ℕ) (found_before found_after : List QrprovedFound) (count : ℕ) : Type 0 where
  pub picture : Picture
  pub same_pixels : picture.pixels.now ≡ pixels
  pub same_width : picture.width ≡ width
  pub same_height : picture.height ≡ height
  pub same_stride : picture.stride ≡ stride
  pub squares : List Scanned
  pub scanned : All (IsScanned picture) squares
  pub read : unread ≡ 0 → All (λ s. s.is_read ≡ true) squares
  pub order : AreReadFirst squares
  pub few : length squares ≤ most_found found_before
  pub symbol : FindsSymbol picture (most_found found_before) squares
  pub counted : count ≡ length squares
  pub tells : found_after ≡ map told_found squares ++ drop (length squares) found_before
  pub holds : HoldAllScanned squares before after
