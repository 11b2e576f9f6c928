-- The lines of a text, drawn from bits, and the whole text, drawn from bytes.
use Rattle.std.proofs.Common.{◌≡◌, ℕ, ◌+◌, ◌*◌, ◌<◌, ◌==◌, Bool, true, false, not, List, [], ◌∷◌, slice_index_or, append-nil, refl, sym, ap, ◌∙◌, inl, inr, arith}
use Rattle.std.proofs.lemmas.Bool.{cases_lt}
use Rattle.qr_matrix.{proofs.Facts.square-same, specs.Grid.{Grid, colour}}
use Rattle.qr_drawing.specs.{Drawing.drawn, Text.text_drawing}
use Rattle.qrproved.specs.{Bits.{HoldsBits, bit_of, square_of_bits}, Drawing.{drawing_of, squares_of_bytes}, Modules.{HoldsSquares, byte_of, square_of_bytes}, Row.style_of}

-- the drawing of one square is a text
pub drawn-text : (n margin : ℕ) (g : Grid) → n < 3 → text_drawing (style_of n) margin g ≡ drawn (drawing_of n) margin (g ∷ [])
drawn-text n margin g l = elim (cases_lt n 1) [
  | inl a ↦ let e : n ≡ 0 = omega arith in rw e (sym (append-nil _))
  | inr b ↦ elim (cases_lt n 2) [
    | inl a ↦ let e : n ≡ 1 = omega arith in rw e (sym (append-nil _))
    | inr c ↦ let e : n ≡ 2 = omega arith in rw e (sym (append-nil _))
  ]
]

-- the colour of a module that is written as a byte
byte-colour : (b : Bool) → not (byte_of b == 0) ≡ b
byte-colour true = refl
byte-colour false = refl

-- a square is read from its bits as from its bytes
pub same-square : (g : Grid) (blank bits empty modules : List ℕ) → HoldsBits g blank bits → HoldsSquares g.side (g ∷ []) empty modules
    → square_of_bits g.side bits ≡ square_of_bytes g.side modules
same-square g blank bits empty modules p q =
    square-same g.side (λ row col. bit_of bits (row * g.side + col)) (λ row col. not (slice_index_or modules (row * g.side + col) 0 == 0)) (λ r c l m.
    let place : r * g.side + c ≡ 0 * (g.side * g.side) + (r * g.side + c) = omega arith in
    let byte : slice_index_or modules (r * g.side + c) 0 ≡ byte_of (colour g r c) = ap (λ (n : ℕ). slice_index_or modules n 0) place ∙ q.modules 0 r c (omega arith) l m in
    p.modules r c l m ∙ (sym (byte-colour (colour g r c)) ∙ ap (λ (n : ℕ). not (n == 0)) (sym byte)))

-- one square of the buffer
pub one-square : (side : ℕ) (bytes : List ℕ) → squares_of_bytes side 1 bytes ≡ square_of_bytes side bytes ∷ []
unfolding squares_of_bytes
one-square side bytes = refl
