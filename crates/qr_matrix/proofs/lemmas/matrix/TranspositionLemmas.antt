-- A tile of 64 words of 64 bits is transposed in six stages, each of which exchanges parts of s rows and s columns.
use Rattle.std.proofs.Common.{List, length, get_or, set, replicate, ◌≡◌, ◌≢◌, ℕ, ◌+◌, ◌-◌, ◌*◌, ◌/◌, ◌%◌, ◌^◌, ◌<◌, ◌≤◌, min, eqb, ltb, Bool, true, not, ◌&&◌, cond, bit_and, bit_xor, ap, ◌∙◌, ◌||◌, inl, inr, arith}
use Rattle.std.proofs.{lemmas.Nat.{mod-mul-add, shr_split, Bits.{bit_at_cat_low, bit_at-zero}}, Math.{Nat.mod-eq_of_lt, ListN.length-set}}
use Rattle.std.proofs.lemmas.List.{get_or_past, get_or-replicate, length-replicate, get_or-set_same, get_or-set_other}
use Rattle.std.proofs.lemmas.Bool.{cases_lt, cases_eq, Decides.nat_tests}
use Rattle.qr_matrix.specs.{BitRow.{has, has_bit}, Sums.all_below, Steps.{bit_in, exchanged}, Grid.{is_same, Grid, square, colour}}
use Rattle.qr_matrix.proofs.lemmas.bit_row.PlaceLemmas.{has-place, has_bit-and, has_bit-xor, has_bit-shr, word-step, has_bit-shl-low, has_bit-shl-high}
use Rattle.qr_matrix.proofs.lemmas.bit_row.RepeatLemmas.{below-at, same-same}

-- f and g agree in the first n rows and 64 columns
abbrev pub Agree : ℕ → (ℕ → ℕ → Bool) → (ℕ → ℕ → Bool) → Type 0
Agree n f g = (r c : ℕ) → r < n → c < 64 → f r c ≡ g r c

-- ---- numbers of rows and columns in pairs of parts

-- if x is in the first part of a pair, then x + s is at the same offset in the second part
mod-up : (s x : ℕ) → x % (2 * s) < s → (x + s) % (2 * s) ≡ x % (2 * s) + s
mod-up s x l = search (arith, mod-mul-add)

-- if x is in the second part of a pair, then x - s is at the same offset in the first part
mod-down : (s x : ℕ) → 1 ≤ s → s ≤ x % (2 * s) → (s ≤ x) × ((x - s) % (2 * s) ≡ x % (2 * s) - s)
mod-down s x p l = grind (arith, mod-mul-add)

-- if a pair of parts begins at `first`, then `first + d` is at offset d of this pair
pub mod-from : (s first d : ℕ) → first % (2 * s) ≡ 0 → d < 2 * s → (first + d) % (2 * s) ≡ d
mod-from s first d e l = search (arith, mod-mul-add)

-- ---- two words

-- bit c of n is bit c of the lowest 64 bits of n, if c is below 64
has_bit-word : (n c : ℕ) → c < 64 → has_bit (n % 2 ^ 64) c ≡ has_bit n c
unfolding has_bit
has_bit-word n c l = cc (bit_at_cat_low (n / 2 ^ 64) 64 (n % 2 ^ 64) c l, shr_split n 64)

-- if b is changed where it differs from a and the mask m is set, then the result is a where m is set, and b elsewhere
changed : (a b m : Bool) → not (is_same b (not (is_same a b) && m)) ≡ cond m a b
changed a b m = grind (arith, nat_tests)

-- the upper word after an exchange: bit c of u in the left part, and bit c - s of l in the right part
pub upper-word : (u l s m c : ℕ) → 1 ≤ s → ((c : ℕ) → c < 64 → has_bit m c ≡ ltb (c % (2 * s)) s) → c < 64
    → has_bit (bit_xor u (bit_and (bit_xor (u / 2 ^ s) l) m * 2 ^ s % 2 ^ 64)) c ≡ cond (ltb (c % (2 * s)) s) (has_bit u c) (has_bit l (c - s))
upper-word u l s m c p masks h =
    let d = bit_and (bit_xor (u / 2 ^ s) l) m in
    has_bit-xor u (d * 2 ^ s % 2 ^ 64) c ∙ (ap (λ z. not (is_same (has_bit u c) z)) (has_bit-word (d * 2 ^ s) c h) ∙ elim (cases_lt c s) [
      | inl k ↦ search (arith, mod-eq_of_lt, nat_tests, has_bit-shl-low)
      | inr k ↦
          let e : s + (c - s) ≡ c = omega arith in
          grind (arith, mod-up, nat_tests, mod-down, has_bit-shl-high, has_bit-and, has_bit-xor, has_bit-shr)
    ])

-- the lower word after an exchange: bit c + s of u in the left part, and bit c of l in the right part
pub lower-word : (u l s m c : ℕ) → ((c : ℕ) → c < 64 → has_bit m c ≡ ltb (c % (2 * s)) s) → c < 64
    → has_bit (bit_xor l (bit_and (bit_xor (u / 2 ^ s) l) m)) c ≡ cond (ltb (c % (2 * s)) s) (has_bit u (c + s)) (has_bit l c)
lower-word u l s m c masks h = search (arith, has_bit-xor, has_bit-and, has_bit-shr, changed)

-- ---- a word of a bit row

-- bit c of word k of a bit row is bit 64 * k + c of the bit row
pub word-read : (ws : List ℕ) (k c : ℕ) → ((j : ℕ) → get_or ws j 0 < 2 ^ 64) → k < 3 → c < 64 → has_bit (get_or ws k 0) c ≡ has ws (64 * k + c)
word-read ws k c w n l = search (arith, has-place)

-- if word k of a bit row is replaced by x, its bits are those of x, and all others stay
pub word-put : (ws : List ℕ) (k x : ℕ) → length ws ≡ 3 → ((j : ℕ) → get_or ws j 0 < 2 ^ 64) → x < 2 ^ 64 → k < 3 → (i : ℕ) → has (set ws k x) i ≡ cond (eqb (i / 64) k) (has_bit x (i % 64)) (has ws i)
word-put ws k x l w m n = word-step ws k x (λ i. cond (eqb (i / 64) k) (has_bit x (i % 64)) (has ws i)) l w m n
    (search (arith, nat_tests))
    (search (arith, nat_tests))

-- ---- rows that are exchanged

-- if item i of w is set to u and then item k to v, then item i is u
two-first : (w : List ℕ) (i k u v : ℕ) → i < length w → i ≢ k → get_or (set (set w i u) k v) i 0 ≡ u
two-first w i k u v l n = get_or-set_other (set w i u) k i v 0 n ∙ get_or-set_same w i u 0 l

-- if item i of w is set to u and then item k to v, then every other item r is as before
pub two-other : (w : List ℕ) (i k u v r : ℕ) → r ≢ i → r ≢ k → get_or (set (set w i u) k v) r 0 ≡ get_or w r 0
two-other w i k u v r m n = search (arith, get_or-set_other)

-- a row of an upper part keeps its left part, and its right part comes from s rows below and s columns to the left
exchanged-upper : (s : ℕ) (f : ℕ → ℕ → Bool) (r c : ℕ) → r % (2 * s) < s → exchanged s f r c ≡ cond (ltb (c % (2 * s)) s) (f r c) (f (r + s) (c - s))
unfolding exchanged
exchanged-upper s f r c l = search (arith, nat_tests)

-- a row of a lower part keeps its right part, and its left part comes from s rows above and s columns to the right
exchanged-lower : (s : ℕ) (f : ℕ → ℕ → Bool) (r c : ℕ) → s ≤ r % (2 * s) → exchanged s f r c ≡ cond (ltb (c % (2 * s)) s) (f (r - s) (c + s)) (f r c)
unfolding exchanged
exchanged-lower s f r c l = search (arith, nat_tests)

-- the bits of w in the rows from `from` to before `to` are those of b after the exchange
abbrev pub AreExchanged : ℕ → List ℕ → List ℕ → ℕ → ℕ → Type 0
AreExchanged s w b from to = (r c : ℕ) → from ≤ r → r < to → c < 64 → bit_in w r c ≡ exchanged s (bit_in b) r c

-- the next rows to be exchanged in w are `row` and `row + s`, which are as in b, in the pair of parts from `first` on
pub record AreNext (s first row : ℕ) (w b : List ℕ) : Type 0 where
  pub some : 1 ≤ s
  pub long : length w ≡ 64
  pub whole : first % (2 * s) ≡ 0
  pub begun : first ≤ row
  pub within : row < first + s
  pub room : first + 2 * s ≤ 64
  pub upper : get_or w row 0 ≡ get_or b row 0
  pub lower : get_or w (row + s) 0 ≡ get_or b (row + s) 0

-- u and v are written as the words of the rows `row` and `row + s` of the tile w, which are the next to be exchanged
module _ (s first row : ℕ) (w b : List ℕ) (u v : ℕ) (next : AreNext s first row w b) where
  -- if the upper rows before `row` are exchanged in w, and u is the exchanged word of `row`, this row is exchanged too
  pub upper-more : ((c : ℕ) → c < 64 → has_bit u c ≡ cond (ltb (c % (2 * s)) s) (has_bit (get_or w row 0) c) (has_bit (get_or w (row + s) 0) (c - s)))
      → AreExchanged s w b first row → AreExchanged s (set (set w row u) (row + s) v) b first (row + 1)
  unfolding bit_in
  upper-more h before r c lr mr hc =
      let p = next.some in let n = next.long in let f = next.whole in let l = next.begun in let m = next.within in let k = next.room in
      let e = next.upper in let g = next.lower in elim (cases_eq r row) [
        | inl q ↦
            let t : r % (2 * s) < s = let d : first + (r - first) ≡ r = omega arith in search (arith, mod-from) in
            search (arith, two-first, exchanged-upper)
        | inr q ↦ search (arith, two-other)
      ]

  -- if the lower rows before `row + s` are exchanged in w, and v is the exchanged word of `row + s`, this row is
  -- exchanged too
  pub lower-more : ((c : ℕ) → c < 64 → has_bit v c ≡ cond (ltb (c % (2 * s)) s) (has_bit (get_or w row 0) (c + s)) (has_bit (get_or w (row + s) 0) c))
      → AreExchanged s w b (first + s) (row + s) → AreExchanged s (set (set w row u) (row + s) v) b (first + s) (row + 1 + s)
  unfolding bit_in
  lower-more h before r c lr mr hc =
      let p = next.some in let n = next.long in let f = next.whole in let l = next.begun in let m = next.within in let k = next.room in
      let e = next.upper in let g = next.lower in elim (cases_eq r (row + s)) [
        | inl q ↦
            let t : s ≤ r % (2 * s) = let d : first + (r - first) ≡ r = omega arith in search (arith, mod-from) in
            grind (arith, get_or-set_same, length-set, exchanged-lower)
        | inr q ↦ search (arith, two-other)
      ]

-- ---- all stages

-- f after its parts of s by s bits were transposed as wholes, the bits in each part as they were
abbrev mirrored : ℕ → (ℕ → ℕ → Bool) → ℕ → ℕ → Bool
mirrored s f r c = f (c - c % s + r % s) (r - r % s + c % s)

-- if x is in the first half of a pair of parts, then its offset in its part is its offset in the pair
half-low : (s x : ℕ) → x % (2 * s) < s → x % s ≡ x % (2 * s)
half-low s x l =
    let q = x / (2 * s) in
    let m = x % (2 * s) in
    let e : x ≡ 2 * q * s + m = omega arith in
    ap (λ z. z % s) e ∙ mod-mul-add (2 * q) s m l

-- if x is in the second half of a pair of parts, then its offset in its part is its offset in the pair, less s
half-high : (s x : ℕ) → 1 ≤ s → s ≤ x % (2 * s) → x % s ≡ x % (2 * s) - s
half-high s x p l =
    let e : x ≡ (2 * (x / (2 * s)) + 1) * s + ((x % (2 * s)) - s) = omega arith in
    search (arith, mod-mul-add)

-- from f with parts of 2 * s by 2 * s bits transposed as wholes, the exchange makes f with parts of s by s bits so
stage : (s : ℕ) (f g h : ℕ → ℕ → Bool) → 1 ≤ s → ((x : ℕ) → x < 64 → x % (2 * s) < s → x + s < 64)
    → Agree 64 g (mirrored (2 * s) f) → Agree 64 h (exchanged s g) → Agree 64 h (mirrored s f)
stage s f g h p fits before now r c l m = now r c l m ∙ elim (cases_lt (r % (2 * s)) s) [
  | inl a ↦ exchanged-upper s g r c a ∙ elim (cases_lt (c % (2 * s)) s) [
    | inl b ↦
        let d = half-low s r a in
        let e = half-low s c b in
        search arith
    | inr b ↦
        let d = half-low s r a in
        let e = half-high s c p b in
        search (arith, mod-up, mod-down)
  ]
  | inr a ↦ exchanged-lower s g r c a ∙ elim (cases_lt (c % (2 * s)) s) [
    | inl b ↦
        let d = half-high s r p a in
        let e = half-low s c b in
        search (arith, mod-down, mod-up)
    | inr b ↦
        let d = half-high s r p a in
        let e = half-high s c p b in
        search arith
  ]
]

-- if the parts are single bits, then f with its parts transposed is the transposed tile f
last-stage : (f : ℕ → ℕ → Bool) (r c : ℕ) → mirrored 1 f r c ≡ f c r
last-stage f r c = search arith

-- after six stages, with parts of 32, 16, 8, 4, 2 and 1 rows, the tile f is transposed
pub all-stages : (f a b d e g h : ℕ → ℕ → Bool) → Agree 64 a (exchanged 32 f) → Agree 64 b (exchanged 16 a) → Agree 64 d (exchanged 8 b) → Agree 64 e (exchanged 4 d) → Agree 64 g (exchanged 2 e) → Agree 64 h (exchanged 1 g)
    → (r c : ℕ) → r < 64 → c < 64 → h r c ≡ f c r
all-stages f a b d e g h ha hb hd he hg hh r c l m =
    let one = stage 32 f f a (omega arith) (λ x l m. omega arith) (search arith) ha in
    let two = stage 16 f a b (omega arith) (λ x l m. omega arith) one hb in
    let three = stage 8 f b d (omega arith) (λ x l m. omega arith) two hd in
    let four = stage 4 f d e (omega arith) (λ x l m. omega arith) three he in
    let five = stage 2 f e g (omega arith) (λ x l m. omega arith) four hg in
    stage 1 f g h (omega arith) (λ x l m. omega arith) five hh r c l m ∙ last-stage f r c

-- bit c of the mask m is set just when column c is in the left part of a pair of parts with s columns each
abbrev pub is_mask : ℕ → ℕ → ℕ → Bool
is_mask m s c = is_same (has_bit m c) (ltb (c % (2 * s)) s)

-- if all 64 bits of the mask m pass the test `is_mask`, then the bits that m has set are those of the left parts
pub mask-at : (m s : ℕ) → all_below 64 (is_mask m s) ≡ true → (c : ℕ) → c < 64 → has_bit m c ≡ ltb (c % (2 * s)) s
mask-at m s e c l = same-same (has_bit m c) (ltb (c % (2 * s)) s) (below-at 64 (is_mask m s) e c l)

-- ---- squares in which some places have other colours

-- the square of side s with the colours f at the places that pass the test t, and the colours h at the other places
abbrev pub chosen : ℕ → (ℕ → ℕ → Bool) → (ℕ → ℕ → Bool) → (ℕ → ℕ → Bool) → Grid
chosen s t f h = square s (λ r c. cond (t r c) (f r c) (h r c))

-- row r is row `row` of the band or in the first `row` rows of the band just when it is in the first `row + 1` rows
pub row-more : (band row r : ℕ) (q : Bool) → row < 64 → ((eqb r (64 * band + row) && q) || ((eqb (r / 64) band && ltb r (64 * band + row)) && q)) ≡ ((eqb (r / 64) band && ltb r (64 * band + (row + 1))) && q)
row-more band row r q l = grind (arith, nat_tests)

-- the tile b has the colours of the square g in the rows of band `word` and the columns of word `band`, where there are
-- any
abbrev pub IsTileOf : ℕ → ℕ → ℕ → List ℕ → Grid → Type 0
IsTileOf word band s b g = Agree 64 (bit_in b) (λ r c. ltb (64 * word + r) s && colour g (64 * word + r) (64 * band + c))

-- ---- a tile that is read

-- a list of n items x, read at index r with x as the default value, returns x
pub zero-at : (n r x : ℕ) → get_or (replicate n x) r x ≡ x
zero-at n r x = search (arith, get_or-replicate, get_or_past, length-replicate)

-- if the first `row` words have the colours of the band's rows, and the words after these are 0, the tile is read
pub tile-read : (band word row s : ℕ) (w : List ℕ) (g : Grid) → 64 * band ≤ s → row ≡ min (s - 64 * band) 64
    → Agree row (λ r c. has_bit (get_or w r 0) c) (λ r c. colour g (64 * band + r) (64 * word + c)) → ((r : ℕ) → row ≤ r → get_or w r 0 ≡ 0)
    → IsTileOf band word s w g
unfolding bit_in has_bit
tile-read band word row s w g b e read rest r c l m = search (arith, nat_tests, bit_at-zero)
