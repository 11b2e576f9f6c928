-- The bytes of the sheet of an SVG document while its boxes are painted.
use Rattle.std.proofs.Common.{◌≡◌, ◌≤◌, ◌<◌, ◌≢◌, ◌+◌, ◌*◌, ◌/◌, ◌%◌, ◌∙◌, ◌++◌, ◌&&◌, ◌||◌, leb, ltb, ℕ, Bool, true, false, cond, eqb, List, ◌∷◌, length, drop, take, get_or, min, set, replicate, refl, sym, ap, arith, inl, inr}
use Rattle.std.proofs.{lemmas.{Bool.{cases_lt, Decides.nat_tests}, Nat.{div-mul-add, mod-mul-add}}, Math.Seq.take-append_seam}
use Rattle.std.proofs.lemmas.List.{length-set, get_or-set_same, get_or-set_other, FromFn.fill_by_all, get_or-replicate, length-replicate}
use Rattle.qr_parsing.{specs.Steps.Svg.{is_in_boxes, painted_bytes}, proofs.lemmas.text.PlaceLemmas.place-in}

-- one column more makes no difference to whether another place is in the box
same-test : (w y x col i : ℕ) → 0 < w → i ≢ y * w + col → (eqb (i / w) y && (leb x (i % w) && ltb (i % w) (col + 1))) ≡ (eqb (i / w) y && (leb x (i % w) && ltb (i % w) col))
same-test w y x col i some other = search (arith, nat_tests)

-- if the box is painted up to a column, and one module more is painted, the box is painted up to the next column
pub painted : (w h y x col : ℕ) (bytes old : List ℕ) → 0 < w → col < w → x ≤ col → y * w + col < length bytes
    → ((i : ℕ) → i < length bytes → get_or bytes i 0 ≡ cond (eqb (i / w) y && (leb x (i % w) && ltb (i % w) col)) 1 (get_or old i 0))
    → (i : ℕ) → i < length bytes → get_or (set bytes (y * w + col) 1) i 0 ≡ cond (eqb (i / w) y && (leb x (i % w) && ltb (i % w) (col + 1))) 1 (get_or old i 0)
painted w h y x col bytes old some lt le fits before i in_i = elim (cases_lt i (y * w + col)) [
  | inl l ↦ other (omega arith)
  | inr g ↦ elim (cases_lt (y * w + col) i) [
    | inl l ↦ other (omega arith)
    | inr m ↦ search (arith, div-mul-add, mod-mul-add, nat_tests, get_or-set_same)
  ]
]
  where
    other : i ≢ y * w + col → get_or (set bytes (y * w + col) 1) i 0 ≡ cond (eqb (i / w) y && (leb x (i % w) && ltb (i % w) (col + 1))) 1 (get_or old i 0)
    other ne = rw (same-test w y x col i some ne) (get_or-set_other bytes (y * w + col) i 1 0 ne ∙ before i in_i)

-- if a box ends after its first module, or the line does, and this module is painted, the box is painted
pub painted-one : (w h y x n : ℕ) (old : List ℕ) → length old ≡ w * h → 0 < w → y < h → x < min (x + n) w → min (x + n) w ≤ x + 1
    → (i : ℕ) → i < length old → get_or (set old (y * w + x) 1) i 0 ≡ cond (eqb (i / w) y && (leb x (i % w) && ltb (i % w) (x + n))) 1 (get_or old i 0)
painted-one w h y x n old area some in_y some_n one i in_i =
    let in_x : x < w = omega arith in
    let place = place-in h w y x in_y in_x in
    painted w h y x x old old some in_x (omega arith) (omega arith) (λ i l. none i) i in_i
    ∙ ap (λ t. cond (eqb (i / w) y && t) 1 (get_or old i 0)) same
  where
    none : (i : ℕ) → get_or old i 0 ≡ cond (eqb (i / w) y && (leb x (i % w) && ltb (i % w) x)) 1 (get_or old i 0)
    none i = let f : (eqb (i / w) y && (leb x (i % w) && ltb (i % w) x)) ≡ false = grind (arith, nat_tests) in rw f refl

    same : (leb x (i % w) && ltb (i % w) (x + 1)) ≡ (leb x (i % w) && ltb (i % w) (x + n))
    same = grind (arith, nat_tests)

-- if the first two modules of a box are painted, the box is painted up to its third column
pub painted-two : (w h y x : ℕ) (old : List ℕ) → length old ≡ w * h → 0 < w → y < h → x + 1 < w
    → (i : ℕ) → i < length old → get_or (set (set old (y * w + x) 1) (y * w + (x + 1)) 1) i 0 ≡ cond (eqb (i / w) y && (leb x (i % w) && ltb (i % w) (x + 2))) 1 (get_or old i 0)
painted-two w h y x old area some in_y in_x i in_i =
    let two = place-in h w y (x + 1) in_y in_x in
    let long = length-set old (y * w + x) 1 in
    let first = painted w h y x x old old some (omega arith) (omega arith) (omega arith) (λ i l. none i) in
    let e : x + 1 + 1 ≡ x + 2 = omega arith in
    painted w h y x (x + 1) (set old (y * w + x) 1) old some in_x (omega arith) (omega arith) (λ i l. first i (omega arith)) i (omega arith)
    ∙ ap (λ n. cond (eqb (i / w) y && (leb x (i % w) && ltb (i % w) n)) 1 (get_or old i 0)) e
  where
    none : (i : ℕ) → get_or old i 0 ≡ cond (eqb (i / w) y && (leb x (i % w) && ltb (i % w) x)) 1 (get_or old i 0)
    none i = let f : (eqb (i / w) y && (leb x (i % w) && ltb (i % w) x)) ≡ false = grind (arith, nat_tests) in rw f refl

-- if one box more is painted, what is left to paint is the boxes after it
pub painted-box : (x y n high back : ℕ) (more : List ℕ) (r c old byte new : ℕ) (all : Bool)
    → cond all 1 old ≡ cond (is_in_boxes (x ∷ y ∷ n ∷ high ∷ back ∷ more) r c) 1 byte
    → new ≡ cond (eqb r y && (leb x c && ltb c (x + n))) 1 byte
    → cond all 1 old ≡ cond (is_in_boxes more r c) 1 new
painted-box x y n high back more r c old byte new all e f = e ∙ (swap ∙ sym (ap (λ z. cond (is_in_boxes more r c) 1 z) f))
  where
    either : (a b : Bool) → cond (a || b) 1 byte ≡ cond b 1 (cond a 1 byte)
    either true true = refl
    either true false = refl
    either false true = refl
    either false false = refl

    turned : eqb y r ≡ eqb r y
    turned = grind (arith, nat_tests)

    swap : cond ((eqb y r && (leb x c && ltb c (x + n))) || is_in_boxes more r c) 1 byte ≡ cond (is_in_boxes more r c) 1 (cond (eqb r y && (leb x c && ltb c (x + n))) 1 byte)
    swap = rw turned (either (eqb r y && (leb x c && ltb c (x + n))) (is_in_boxes more r c))

-- if each byte is painted as the boxes say, the bytes are the painted bytes of the definition
pub painted-all : (w h n : ℕ) (bytes new numbers : List ℕ) → bytes ≡ replicate (w * h) 0 → n ≡ w * h → length new ≡ w * h
    → ((i : ℕ) → i < length bytes → get_or new i 0 ≡ cond (is_in_boxes numbers (i / w) (i % w)) 1 (get_or bytes i 0))
    → take n (new ++ drop (length new) bytes) ≡ painted_bytes w h numbers
painted-all w h n bytes new numbers e f g painted =
    let k : n ≡ length new = f ∙ sym g in
    ap (λ z. take z (new ++ drop (length new) bytes)) k ∙ (take-append_seam new (drop (length new) bytes)
    ∙ fill_by_all (λ i. cond (is_in_boxes numbers (i / w) (i % w)) 1 0) new (w * h) 0 g (search (arith, length-replicate, get_or-replicate, painted)))

-- the byte of each module of a whole raster is among the painted bytes
pub bytes-inside : (w high count k y x : ℕ) → 8 ≤ w → count ≡ high / w → k < count → y < w → x < w → (k * w + y) * w + x < w * high
bytes-inside w high count k y x wide e a b c =
    let all : count * w ≤ high = omega (arith, ap (λ n. n * w) e) in
    let line = place-in count w k y a b in
    omega (arith, place-in high w (k * w + y) x (omega arith) c)
