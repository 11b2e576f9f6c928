-- Squares that can be read.
use Rattle.std.proofs.Common.{◌≡◌, ◌↔◌, ℕ, suc, ◌+◌, ◌*◌, ◌<◌, ◌≤◌, Bool, true, List, ap, arith, subst}
use Rattle.std.specs.List.{All}
use Rattle.std.proofs.lemmas.Nat.{mul-le}
use Rattle.qr_bits.specs.Parsing.{Content}
use Rattle.qr_layout.specs.Blocks.{spare_of}
use Rattle.qr_layout.specs.declared.level.Level.{Level}
use Rattle.qr_matrix.specs.Grid.{Grid}
use Rattle.qr_mending.proofs.Facts.{mended-reading-one, wrong-one}
use Rattle.qr_mending.specs.{Mending.{HasWrongModules, IsMendedReading}, declared.erasures.Changes.{Changes}}
use Rattle.qr_sampling.specs.Sums.{sum_below}
use Rattle.qr_scanning.specs.Reading.{IsReadableBy, is_checked}

abbrev is_all : ℕ → Level → List Changes → Type 0
is_all v l x = All (λ c. is_checked (spare_of v l) c ≡ true) x

-- a square that was mended with few wrong modules can be read if its blocks are checked
pub told-by-blocks : (share : ℕ) (u g : Grid) (v : ℕ) (l : Level) (m : ℕ) (p : Content) (x : List Changes) (wrong : ℕ) (are : Bool)
    → IsMendedReading u g v l m p x → HasWrongModules u g v l m x wrong → wrong * share ≤ g.side * g.side
    → (are ≡ true) ↔ All (λ c. is_checked (spare_of v l) c ≡ true) x → (are ≡ true) ↔ IsReadableBy share u g
told-by-blocks share u g v l m p x wrong are read counted few checked = (
  λ yes. record { version = v; level = l; mask = m; content = p; changed = x; wrong = wrong; read = read; counted = counted; few = few; checked = checked.0 yes },
  λ is.
      let o = mended-reading-one u g is.version v is.level l is.mask m is.content p is.changed x is.read read in
      let same : is_all is.version is.level is.changed = is.checked in
      checked.1 (rw (o.0, o.1, o.4) at same),
)

-- a square that was mended with too many wrong modules cannot be read
pub told-by-count : (share : ℕ) (u g : Grid) (v : ℕ) (l : Level) (m : ℕ) (x : List Changes) (wrong : ℕ)
    → HasWrongModules u g v l m x wrong → g.side * g.side < wrong * share → IsReadableBy share u g → ⊥
told-by-count share u g v l m x wrong counted many is =
    let few : wrong * share ≤ g.side * g.side = subst (λ (n : ℕ). n * share ≤ g.side * g.side) (wrong-one u g is.version v is.level l is.mask m is.changed x is.wrong wrong is.counted counted) is.few in
    omega (arith, few, many)

-- a square of which at most one module in `share` is wrong has at most one in five wrong, if `share` is no less than five
pub readable-by-less : (share : ℕ) (u g : Grid) → 5 ≤ share → IsReadableBy share u g → IsReadableBy 5 u g
readable-by-less share u g least is = record {
  version = is.version;
  level = is.level;
  mask = is.mask;
  content = is.content;
  changed = is.changed;
  wrong = is.wrong;
  read = is.read;
  counted = is.counted;
  few = omega (arith, mul-le is.wrong 5 is.wrong share (omega arith) least, is.few);
  checked = is.checked;
}

-- the index of a module of a square
pub place-in : (side column row : ℕ) → column < side → row < side → row * side + column < side * side
place-in side column row h k = grind arith

-- if a is the sum of f below n, b + c is f n and d is a + (b + c), then d is the sum of f below n + 1
pub sum-more : (n a b c d : ℕ) (f : ℕ → ℕ) → a ≡ sum_below n f → b + c ≡ f n → d ≡ a + (b + c) → d ≡ sum_below (n + 1) f
sum-more n a b c d f e g h = ends (n + 1) (omega arith)
  where
    ends : (m : ℕ) → m ≡ suc n → d ≡ sum_below m f
    ends m k = omega (arith, ap (λ z. sum_below z f) k)
