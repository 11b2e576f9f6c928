-- The cursors of the walk: a step leaves one fewer, and a cursor with fewer left has a later key. v is a version.
use Rattle.std.proofs.{Common.{◌≡◌, ℕ, ◌+◌, ◌-◌, ◌*◌, ◌<◌, ◌≤◌, Bool, true, ◌⊎◌, arith}, Math.Nat.mul-le-mul_right, lemmas.Bool.Decides.nat_tests}
use Rattle.qr_layout.specs.{declared.order.Cursor.Cursor, Version.side_of, Order.{key_of, is_before}}
use Rattle.qr_layout.specs.Steps.Order.{half_of, place_of, rows_before_of, left_of, next_of, IsCursor}

-- if p is positive, then w is at most p * w
pub mul-le_one : (p w : ℕ) → 0 < p → w ≤ p * w
mul-le_one p w h = grind (arith, nat_tests)

-- if p is q + 1, then q * w + w equals p * w
mul-add_one : (q p w : ℕ) → p ≡ q + 1 → q * w + w ≡ p * w
mul-add_one q p w e = rw e (omega arith)

-- if p is positive, then (p - 1) * w + w equals p * w
mul-pred : (p w : ℕ) → 0 < p → (p - 1) * w + w ≡ p * w
mul-pred p w h = mul-add_one (p - 1) p w (omega arith)

-- the cursor after cursor a has one cursor fewer left than a
pub next-left : (s : ℕ) (a : Cursor) → 0 < a.strips_left → a.row < s → left_of s (next_of s a) + 1 ≡ left_of s a
unfolding left_of next_of
next-left s a h k = search (arith, mul-le_one, mul-pred, nat_tests)

-- the cursor after cursor a of the walk is a cursor of the walk or the end of the walk
pub next-IsCursor : (v : ℕ) (a : Cursor) → IsCursor v a → 0 < a.strips_left → IsCursor v (next_of (side_of v) a)
unfolding next_of
next-IsCursor v a k h = search (arith, nat_tests)

-- the number of a half of a strip is 0 or 1
pub half_of-bound : (b : Bool) → half_of b < 2
half_of-bound b = grind (arith, nat_tests)

-- the key of the module at cursor a has the strip of a, its rows before it and its half
key_of-place : (v : ℕ) (a : Cursor) → IsCursor v a → 0 < a.strips_left → key_of v (place_of a) ≡ record { strip = 8 + 2 * v - a.strips_left; rows_before = rows_before_of (side_of v) a; column = half_of a.at_left }
unfolding key_of
key_of-place v a i k = search arith

-- if p is below q, then p * w + w is at most q * w
pub mul-lt : (p q w : ℕ) → p < q → p * w + w ≤ q * w
mul-lt p q w k = search (arith, mul-le-mul_right)

-- of two cursors, the one with fewer left is in a later strip, or later in the same strip
before-arith : (h p q w x y : ℕ) → p ≤ h → q ≤ h → x < w → y < w → q * w - y < p * w - x → 0 < q → (h - p < h - q) ⊎ ((h - p ≡ h - q) × (x < y))
before-arith h p q w x y a b c d e f = search (arith, mul-lt)

-- if cursor b has fewer cursors left than cursor a, then the module at b has a later key than the module at a
pub is_before-left : (v : ℕ) (a b : Cursor) → IsCursor v a → IsCursor v b → 0 < a.strips_left → 0 < b.strips_left → left_of (side_of v) b < left_of (side_of v) a → is_before (key_of v (place_of a)) (key_of v (place_of b)) ≡ true
unfolding left_of is_before
is_before-left v a b i j k l m = search (arith, half_of-bound, key_of-place, before-arith, nat_tests)
