-- The bits of a strip, row by row, are those of the strip's places in the region, in their order.
use Rattle.{qr_bits.specs.Bits.field, qr_layout.specs.{Order.in_region_of, Region.is_in_region, Strips.{both_of, rows_from}, declared.region.Module.Module}}
use Rattle.{qr_layout.specs.declared.strips.Strip.Strip, qr_matrix.specs.{BitRow.{has, has_bit}, Grid.{Grid, colour}}}
use Rattle.qr_symbol.{proofs.lemmas.placement.PlacementLemmas.at, specs.Steps.Collecting.{bit_if, bits_in_rows, colour_across}}
use Rattle.qr_symbol.specs.{Steps.{Spans.{row_of, AreOutside, AreWholeRows}, Words.{Appends, Collected}}, declared.spans.Columns.Columns}
use Rattle.std.proofs.Common.{◌≡◌, ℕ, zero, suc, ◌+◌, ◌-◌, ◌<◌, ◌≤◌, Bool, true, false, cond, List, [], ◌∷◌, ◌++◌, map, refl, append_assoc, append-nil, arith, ◌*◌, sym, ◌∙◌, ap}

-- the bits of n + m rows are those of the first n rows, followed by those of m more
rows-append : (s : ℕ) (x : Strip) (r y : Columns) (k n m : ℕ) → bits_in_rows s x r y k (n + m) ≡ bits_in_rows s x r y k n ++ bits_in_rows s x r y (k + n) m
rows-append s x r y k zero m = search arith
rows-append s x r y k (suc n) m =
    let e : suc n + m ≡ suc (n + m) = omega arith in search (arith, append_assoc, rows-append s x r y (k + 1) n m)

-- after n rows, m more rows are read
pub rows-read : (s : ℕ) (x : Strip) (r y : Columns) (k n m h j : ℕ) (a b c : Collected) → h ≡ k + n → j ≡ n + m → Appends (bits_in_rows s x r y k n) a b → Appends (bits_in_rows s x r y h m) b c
    → Appends (bits_in_rows s x r y k j) a c
rows-read s x r y k n m h j a b c e f p q room xs i =
    rw (f, rows-append s x r y k n m, ← e, ← append_assoc xs (bits_in_rows s x r y k n) (bits_in_rows s x r y h m)) (q room _ (p room xs i))

-- a row is read of which only the right module is in the region
pub right-read : (s : ℕ) (x : Strip) (r y : Columns) (k row : ℕ) (dark : Bool) (a b : Collected) → row ≡ row_of s x k → has r.right row ≡ true → has r.left row ≡ false
    → dark ≡ has y.right row → Appends (dark ∷ []) a b → Appends (bits_in_rows s x r y k 1) a b
right-read s x r y k row dark a b e t u f p = rw (← e, t, u, ← f) p

-- a row is read of which only the left module is in the region
pub left-read : (s : ℕ) (x : Strip) (r y : Columns) (k row : ℕ) (dark : Bool) (a b : Collected) → row ≡ row_of s x k → has r.right row ≡ false → has r.left row ≡ true
    → dark ≡ has y.left row → Appends (dark ∷ []) a b → Appends (bits_in_rows s x r y k 1) a b
left-read s x r y k row dark a b e t u f p = rw (← e, t, u, ← f) p

-- rows outside the region have no bits
outside-bits : (s : ℕ) (x : Strip) (r y : Columns) (k n : ℕ)
    → AreOutside s x k n r → bits_in_rows s x r y k n ≡ []
outside-bits s x r y k zero out = refl
outside-bits s x r y k (suc n) out =
    let here = out k (omega arith) (omega arith) in
    rw (here.0, here.1) (outside-bits s x r y (k + 1) n (λ j a b. out j (omega arith) (omega arith)))

-- they are read if nothing is done
pub outside-read : (s : ℕ) (x : Strip) (r y : Columns) (k n : ℕ) (a : Collected)
    → AreOutside s x k n r → Appends (bits_in_rows s x r y k n) a a
outside-read s x r y k n a out room xs i = rw (outside-bits s x r y k n out, append-nil) i

-- the bits of a place and of further places
kept-bit : (t : Bool) (f : Module → Bool) (m : Module) (ms : List Module) → map f (cond t (m ∷ ms) ms) ≡ bit_if t (f m) ++ map f ms
kept-bit true f m ms = refl
kept-bit false f m ms = refl

-- the columns r say which places of a strip are in the region, and the columns y have the colours of the square g,
-- which is read with row and column exchanged
module _ (v s : ℕ) (g : Grid) (x : Strip) (r y : Columns)
    (right_in : (row : ℕ) → row < s → has r.right row ≡ is_in_region v row x.right) (left_in : (row : ℕ) → row < s → has r.left row ≡ is_in_region v row (x.right - 1))
    (right : (row : ℕ) → has y.right row ≡ colour g x.right row) (left : (row : ℕ) → has y.left row ≡ colour g (x.right - 1) row) where
  -- the bits of the rows of a strip are those of its places in the region
  pub strip-bits : (k n : ℕ) → k + n ≤ s → bits_in_rows s x r y k n ≡ map (colour_across g) (in_region_of v (both_of (rows_from s x k n)))
  strip-bits k zero l = refl
  strip-bits k (suc n) l = search (arith, at, append_assoc, kept-bit, strip-bits (k + 1) n (omega arith))

-- n rows of which all modules are in the region have the bits of a number with two bits for each row, of which the
-- right column has the higher one; the lowest bits are for the last row
pub run-bits : (s : ℕ) (x : Strip) (r y : Columns) (k n w : ℕ) → AreWholeRows s x k n r
    → ((m : ℕ) → m < n → has_bit w (2 * (n - 1 - m) + 1) ≡ has y.right (row_of s x (k + m)))
    → ((m : ℕ) → m < n → has_bit w (2 * (n - 1 - m)) ≡ has y.left (row_of s x (k + m)))
    → field (2 * n) w ≡ bits_in_rows s x r y k n
unfolding field has_bit
run-bits s x r y k zero w whole p q = refl
run-bits s x r y k (suc n) w whole p q =
    let e : 2 * suc n ≡ suc (suc (2 * n)) = omega arith in
    let f : 2 * (suc n - 1 - 0) ≡ 2 * n = omega arith in
    let g : 2 * (suc n - 1 - 0) + 1 ≡ suc (2 * n) = omega arith in
    let h : k + 0 ≡ k = omega arith in
    let here = whole k (omega arith) (omega arith) in
    let right = ap (has_bit w) (sym g) ∙ (p 0 (omega arith) ∙ ap (λ z. has y.right (row_of s x z)) h) in
    let left = ap (has_bit w) (sym f) ∙ (q 0 (omega arith) ∙ ap (λ z. has y.left (row_of s x z)) h) in
    let at : (m : ℕ) → k + 1 + m ≡ k + (m + 1) = λ m. omega arith in
    let place : (m : ℕ) → m < n → 2 * (n - 1 - m) ≡ 2 * (suc n - 1 - (m + 1)) = λ m l. omega arith in
    let rest = run-bits s x r y (k + 1) n w (λ j a b. whole j (omega arith) (omega arith))
    (λ m l. ap (λ z. has_bit w (z + 1)) (place m l) ∙ (p (m + 1) (omega arith) ∙ ap (λ z. has y.right (row_of s x z)) (sym (at m))))
    (λ m l. ap (has_bit w) (place m l) ∙ (q (m + 1) (omega arith) ∙ ap (λ z. has y.left (row_of s x z)) (sym (at m)))) in
    rw (e, here.0, here.1) (cc (right, left, rest))
