-- Operations on the words of two bit rows at once.
use Rattle.qr_matrix.{specs.BitRow.has_bit, proofs.lemmas.runs.ColumnLemmas.has-nothing}
use Rattle.std.proofs.lemmas.{Nat.{Bits.bit_at-zero, or_lt, xor_lt, le_or_l, le_or_r}, List.get_or_past, Bool.{cases_lt, Decides.nat_tests}}
use Rattle.std.proofs.Common.{◌≡◌, inl, inr, ℕ, ◌+◌, ◌-◌, ◌*◌, ◌/◌, ◌%◌, ◌^◌, ◌<◌, List, [], ◌∷◌, length, get_or, replicate, Bool, true, false, not, ◌&&◌, ◌||◌, ltb, eqb, bit_and, bit_or, bit_xor, refl, sym, ap, ◌∙◌, arith}
use Rattle.std.proofs.lemmas.{List.{get_or-map, get_or-replicate, length-map, length-replicate}, Simd.{length-zip2, get_or-zip2}}
use lib.Lanes.{zip2}
use Rattle.qr_matrix.specs.{Grid.{Grid, GridPair, is_same, one_of, square}, Steps.{IsPair, lane, lanes, word_of}, BitRow.{has, bit_row_number, dark_in}}
use Rattle.qr_matrix.proofs.lemmas.bit_row.{WordLemmas.{three-and, three-or, three-xor, three-down, three-up}, PlaceLemmas.{has_bit-and, has_bit-or, has_bit-xor, has_bit-shr, has_bit-up}}

-- ---- one operation on two words

-- each word of a pair is a word
pub word-small : (a : List ℕ) (s : Bool) → IsPair a → word_of a s < 2 ^ 64
word-small a false p = p.1
word-small a true p = p.2

-- an operation on two pairs is the operation on their words
pub zip-word : (f : ℕ → ℕ → ℕ) (a b : List ℕ) (s : Bool) → length a ≡ 2 → length b ≡ 2 → word_of (zip2 f a b) s ≡ f (word_of a s) (word_of b s)
zip-word f a b false l m = get_or-zip2 f a b 0 0 0 0 (omega arith) (omega arith)
zip-word f a b true l m = get_or-zip2 f a b 1 0 0 0 (omega arith) (omega arith)

-- it is a pair, if the operation makes words
pub zip-pair : (f : ℕ → ℕ → ℕ) (a b : List ℕ) → length a ≡ 2 → length b ≡ 2 → ((s : Bool) → f (word_of a s) (word_of b s) < 2 ^ 64) → IsPair (zip2 f a b)
zip-pair f a b l m h = search (arith, length-zip2, zip-word f a b false l m, zip-word f a b true l m)

pub or-pair : (a b : List ℕ) → IsPair a → IsPair b → IsPair (zip2 bit_or a b)
or-pair a b p q = search (arith, zip-pair, or_lt, word-small)

pub xor-pair : (a b : List ℕ) → IsPair a → IsPair b → IsPair (zip2 bit_xor a b)
xor-pair a b p q = search (arith, zip-pair, xor_lt, word-small)

-- ---- operations on two rows

module _ (a b d : List ℕ) (s : Bool) (pa : IsPair a) (pb : IsPair b) (pd : IsPair d) where
  module _ (e f g : List ℕ) (pe : IsPair e) (pf : IsPair f) (pg : IsPair g) where
    pub lane-and : (c : ℕ) → has (lane (zip2 bit_and a e ∷ zip2 bit_and b f ∷ zip2 bit_and d g ∷ []) s) c ≡ (has (lane (a ∷ b ∷ d ∷ []) s) c && has (lane (e ∷ f ∷ g ∷ []) s) c)
    unfolding has bit_row_number lane
    lane-and c = cc (zip-word bit_and a e s pa.0 pe.0, zip-word bit_and b f s pb.0 pf.0, zip-word bit_and d g s pd.0 pg.0, three-and (word_of a s) (word_of b s) (word_of d s) (word_of e s) (word_of f s) (word_of g s) (word-small a s pa) (word-small b s pb) (word-small e s pe) (word-small f s pf), has_bit-and (bit_row_number (lane (a ∷ b ∷ d ∷ []) s)) (bit_row_number (lane (e ∷ f ∷ g ∷ []) s)) c)

    pub lane-or : (c : ℕ) → has (lane (zip2 bit_or a e ∷ zip2 bit_or b f ∷ zip2 bit_or d g ∷ []) s) c ≡ (has (lane (a ∷ b ∷ d ∷ []) s) c || has (lane (e ∷ f ∷ g ∷ []) s) c)
    unfolding has bit_row_number lane
    lane-or c = cc (zip-word bit_or a e s pa.0 pe.0, zip-word bit_or b f s pb.0 pf.0, zip-word bit_or d g s pd.0 pg.0, three-or (word_of a s) (word_of b s) (word_of d s) (word_of e s) (word_of f s) (word_of g s) (word-small a s pa) (word-small b s pb) (word-small e s pe) (word-small f s pf), has_bit-or (bit_row_number (lane (a ∷ b ∷ d ∷ []) s)) (bit_row_number (lane (e ∷ f ∷ g ∷ []) s)) c)

    pub lane-xor : (c : ℕ) → has (lane (zip2 bit_xor a e ∷ zip2 bit_xor b f ∷ zip2 bit_xor d g ∷ []) s) c ≡ not (is_same (has (lane (a ∷ b ∷ d ∷ []) s) c) (has (lane (e ∷ f ∷ g ∷ []) s) c))
    unfolding has bit_row_number lane
    lane-xor c = cc (zip-word bit_xor a e s pa.0 pe.0, zip-word bit_xor b f s pb.0 pf.0, zip-word bit_xor d g s pd.0 pg.0, three-xor (word_of a s) (word_of b s) (word_of d s) (word_of e s) (word_of f s) (word_of g s) (word-small a s pa) (word-small b s pb) (word-small e s pe) (word-small f s pf), has_bit-xor (bit_row_number (lane (a ∷ b ∷ d ∷ []) s)) (bit_row_number (lane (e ∷ f ∷ g ∷ []) s)) c)

-- ---- shifts

-- what a shift by k down, or up, does to a word
abbrev pub down : ℕ → ℕ → ℕ
down x k = x / 2 ^ k

abbrev pub up : ℕ → ℕ → ℕ
up x k = x * 2 ^ k % 2 ^ 64

-- each of two words shifted by k
shifted-word : (f : ℕ → ℕ → ℕ) (a : List ℕ) (k : ℕ) (s : Bool) → IsPair a → word_of (zip2 f a (k ∷ k ∷ [])) s ≡ f (word_of a s) k
shifted-word f a k false p = zip-word f a (k ∷ k ∷ []) false p.0 refl
shifted-word f a k true p = zip-word f a (k ∷ k ∷ []) true p.0 refl

-- two words that are shifted down stay words
down-pair : (a : List ℕ) (k : ℕ) → IsPair a → IsPair (zip2 down a (k ∷ k ∷ []))
down-pair a k p = zip-pair down a (k ∷ k ∷ []) p.0 refl (search arith)

up-pair : (a : List ℕ) (k : ℕ) → IsPair a → IsPair (zip2 up a (k ∷ k ∷ []))
up-pair a k p = zip-pair up a (k ∷ k ∷ []) p.0 refl (elim [ false ↦ omega arith | true ↦ omega arith ])

both-word : (f g : ℕ → ℕ → ℕ) (a b : List ℕ) (k j : ℕ) (s : Bool) → IsPair a → IsPair b → IsPair (zip2 f a (k ∷ k ∷ [])) → IsPair (zip2 g b (j ∷ j ∷ []))
    → word_of (zip2 bit_or (zip2 f a (k ∷ k ∷ [])) (zip2 g b (j ∷ j ∷ []))) s ≡ bit_or (f (word_of a s) k) (g (word_of b s) j)
both-word f g a b k j s pa pb p q = search (arith, zip-word, shifted-word)

pub into-down : (a b : List ℕ) (k j : ℕ) → IsPair a → IsPair b → IsPair (zip2 bit_or (zip2 down a (k ∷ k ∷ [])) (zip2 up b (j ∷ j ∷ [])))
into-down a b k j p q = search (arith, down-pair, up-pair, or-pair)

pub into-up : (a b : List ℕ) (k j : ℕ) → IsPair a → IsPair b → IsPair (zip2 bit_or (zip2 up a (k ∷ k ∷ [])) (zip2 down b (j ∷ j ∷ [])))
into-up a b k j p q = search (arith, up-pair, down-pair, or-pair)

pub last-down : (a : List ℕ) (k : ℕ) → IsPair a → IsPair (zip2 down a (k ∷ k ∷ []))
last-down a k p = down-pair a k p

pub first-up : (a : List ℕ) (k : ℕ) → IsPair a → IsPair (zip2 up a (k ∷ k ∷ []))
first-up a k p = up-pair a k p

module _ (a b d : List ℕ) (s : Bool) (pa : IsPair a) (pb : IsPair b) (pd : IsPair d) where
  pub lane-down : (k j c : ℕ) → k < 64 → j ≡ 64 - k
      → has (lane (zip2 bit_or (zip2 down a (k ∷ k ∷ [])) (zip2 up b (j ∷ j ∷ [])) ∷ zip2 bit_or (zip2 down b (k ∷ k ∷ [])) (zip2 up d (j ∷ j ∷ [])) ∷ zip2 down d (k ∷ k ∷ []) ∷ []) s) c
      ≡ has (lane (a ∷ b ∷ d ∷ []) s) (c + k)
  unfolding has bit_row_number lane
  lane-down k j c l e = cc (both-word down up a b k j s pa pb (down-pair a k pa) (up-pair b j pb), both-word down up b d k j s pb pd (down-pair b k pb) (up-pair d j pd), shifted-word down d k s pd, three-down (word_of a s) (word_of b s) (word_of d s) k l (word-small a s pa) (word-small b s pb), has_bit-shr (bit_row_number (lane (a ∷ b ∷ d ∷ []) s)) k c)

  pub lane-up : (c : ℕ) → c < 192
      → has (lane (zip2 up a (1 ∷ 1 ∷ []) ∷ zip2 bit_or (zip2 up b (1 ∷ 1 ∷ [])) (zip2 down a (63 ∷ 63 ∷ [])) ∷ zip2 bit_or (zip2 up d (1 ∷ 1 ∷ [])) (zip2 down b (63 ∷ 63 ∷ [])) ∷ []) s) c
      ≡ (ltb 0 c && has (lane (a ∷ b ∷ d ∷ []) s) (c - 1))
  unfolding has bit_row_number lane
  lane-up c l = search (arith, shifted-word, both-word, up-pair, down-pair, three-up, word-small, has_bit-up)

-- ---- counts

-- ---- one bit of each word

-- a word n in which bit `at` is cleared, and then set if d is 1
abbrev pub written : ℕ → ℕ → ℕ → ℕ
written n at d = bit_or (bit_and n (2 ^ 64 - 1 - 1 * 2 ^ at % 2 ^ 64)) (d * 2 ^ at % 2 ^ 64)

-- ---- one bit of each row

-- ---- no bits

-- a number is 0 if a bitwise disjunction with it is
pub or-zero : (x y : ℕ) → bit_or x y ≡ 0 → (x ≡ 0) × (y ≡ 0)
or-zero x y e = search (arith, le_or_l, le_or_r)

-- if the disjunction of all words of both rows is 0, no bit is set in either row
pub no-bits : (a b d : List ℕ) → IsPair a → IsPair b → IsPair d → eqb (bit_or (get_or (zip2 bit_or (zip2 bit_or a b) d) 0 0) (get_or (zip2 bit_or (zip2 bit_or a b) d) 1 0)) 0 ≡ true
    → (s : Bool) (c : ℕ) → has (lane (a ∷ b ∷ d ∷ []) s) c ≡ false
unfolding has bit_row_number lane
no-bits a b d pa pb pd e s c =
    let all = zip2 bit_or (zip2 bit_or a b) d in
    let w : word_of all s ≡ 0 = each s (or-zero (get_or all 0 0) (get_or all 1 0) (grind (arith, nat_tests))) in
    let q = or-zero (word_of (zip2 bit_or a b) s) (word_of d s) (sym (zip-word bit_or (zip2 bit_or a b) d s (or-pair a b pa pb).0 pd.0) ∙ w) in
    let r = or-zero (word_of a s) (word_of b s) (sym (zip-word bit_or a b s pa.0 pb.0) ∙ q.0) in
    cc (has-nothing c)
  where
    each : (s : Bool) → (get_or (zip2 bit_or (zip2 bit_or a b) d) 0 0 ≡ 0) × (get_or (zip2 bit_or (zip2 bit_or a b) d) 1 0 ≡ 0) → word_of (zip2 bit_or (zip2 bit_or a b) d) s ≡ 0
    each false p = p.0
    each true p = p.1

-- ---- the rows of two squares

pub lanes-long : (rows : List (List (List ℕ))) (s : Bool) → length (lanes rows s) ≡ length rows
lanes-long rows s = length-map rows (λ pairs. lane pairs s)

-- the row of a square is read from the rows of both
pub lane-read : (rows : List (List (List ℕ))) (i : ℕ) (pairs : List (List ℕ)) (s : Bool) → i < length rows → pairs ≡ get_or rows i pairs → lane pairs s ≡ get_or (lanes rows s) i (lane pairs s)
lane-read rows i pairs s l e = search (arith, get_or-map)

-- a square is drawn from its rows
pub square-of : (side : ℕ) (rows : List (List (List ℕ))) (g : GridPair) → record { first = square side (dark_in (lanes rows false)); second = square side (dark_in (lanes rows true)) } ≡ g
    → (s : Bool) → square side (dark_in (lanes rows s)) ≡ one_of g s
square-of side rows g e false = ap (λ (p : GridPair). p.first) e
square-of side rows g e true = ap (λ (p : GridPair). p.second) e

pub side-of : (side : ℕ) (rows : List (List (List ℕ))) (g : GridPair) → record { first = square side (dark_in (lanes rows false)); second = square side (dark_in (lanes rows true)) } ≡ g
    → (s : Bool) → side ≡ (one_of g s).side
side-of side rows g e s = ap (λ (h : Grid). h.side) (square-of side rows g e s)

-- equal rows without a bit are light
pub dark-lanes : (n : ℕ) (rows : List (List (List ℕ))) (pairs : List (List ℕ)) (s : Bool) → rows ≡ replicate n pairs → ((c : ℕ) → has (lane pairs s) c ≡ false) → (r c : ℕ) → dark_in (lanes rows s) r c ≡ false
unfolding dark_in has has_bit bit_row_number
dark-lanes n rows pairs s e h r c = elim (cases_lt r n) [
  | inl l ↦ (
      let k : r < length rows = omega (arith, ap length e, length-replicate n pairs) in
      ap (λ z. has z c) (get_or-map (λ z. lane z s) rows r pairs [] k ∙ ap (λ z. lane z s) (ap (λ z. get_or z r pairs) e ∙ get_or-replicate n r pairs pairs l)) ∙ h c
      )
  | inr l ↦ search (arith, length-replicate, lanes-long, get_or_past, bit_at-zero)
]

-- what two squares are seen as
pub one-view : (side : ℕ) (rows : List (List (List ℕ))) (s : Bool) → one_of (record { first = square side (dark_in (lanes rows false)); second = square side (dark_in (lanes rows true)) }) s ≡ square side (dark_in (lanes rows s))
one-view side rows false = refl
one-view side rows true = refl
