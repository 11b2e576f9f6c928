-- A clean picture is found, and what is found is a clean picture.
use Rattle.std.proofs.Common.{◌≡◌, ◌≢◌, ◌⊎◌, ℕ, ◌+◌, ◌-◌, ◌*◌, ◌/◌, ◌<◌, Bool, true, false, cond, eqb, Option, None, Some, MatchOption, refl, sym, ap, ◌∙◌, arith, inl, inr}
use Rattle.std.proofs.lemmas.{Bool.{eq-eqb, ne_eqb}, Nat.{div-mul-add}}
use Rattle.qr_matrix.{proofs.Facts.{colour-square, square-same}, specs.Grid.{Grid, colour, square}}
use Rattle.qr_pictures.specs.Clean.{IsCleanPicture}
use Rattle.qr_pictures.specs.Pixels.{IsDrawing, Pixels, grey}
use Rattle.qr_pictures.specs.Steps.{HasGreys, IsTurn, back, sampled}
use Rattle.qr_pictures.specs.Turns.{turned}
use Rattle.qr_pictures.specs.declared.clean.CleanSquare.{CleanSquare}
use Rattle.qr_pictures.specs.declared.frame.Frame.{Frame}
use Rattle.qr_pictures.specs.declared.turn.Turn.{Turn, TheVariants.{Upright, Quarter, Half, ThreeQuarters}}
use Rattle.qr_pictures.proofs.lemmas.picture.{drawing-same, grey-two, module-in, shown-inside}
use Rattle.qr_pictures.proofs.lemmas.turn.{Turned, turn-read, turn-same, turn-shown, turned-back, turned-same}
use Rattle.qr_pictures.proofs.lemmas.frame.{corners, top-begins, top-ends}

-- ---- the pixels of a module

offset : (a n scale i : ℕ) → i < scale → (a + (n * scale + i) - a) / scale ≡ n
offset a n scale i l = ap (λ z. z / scale) (let e : a + (n * scale + i) - a ≡ n * scale + i = omega arith in e) ∙ div-mul-add n scale i l

-- pixel (i, j) of the module in row `r` and column `c`
pub record PixelOf (p : Pixels) (f : Frame) (r c i j : ℕ) (b : Bool) : Type 0 where
  pub row_in : f.top + (r * f.scale + i) < p.height
  pub col_in : f.left + (c * f.scale + j) < p.width
  pub is : grey p (f.top + (r * f.scale + i)) (f.left + (c * f.scale + j)) ≡ cond b f.dark f.light

pub pixel-of : (p : Pixels) (f : Frame) (dark : ℕ → ℕ → Bool) (r c i j : ℕ) (b : Bool) → IsDrawing p f dark → r < f.side → c < f.side → i < f.scale → j < f.scale → dark r c ≡ b → PixelOf p f r c i j b
pixel-of p f dark r c i j b h l m i_in j_in e =
    let down = h.frame.down in
    let across = h.frame.across in
    let rows = module-in r f.side f.scale l in
    let cols = module-in c f.side f.scale m in
    record {
      row_in = omega arith;
      col_in = omega arith;
      is = shown-inside p f dark (f.top + (r * f.scale + i)) (f.left + (c * f.scale + j)) h (omega arith) (omega arith) (omega arith) (omega arith)
          ∙ ap (λ z. cond (dark z ((f.left + (c * f.scale + j) - f.left) / f.scale)) f.dark f.light) (offset f.top r f.scale i i_in)
          ∙ ap (λ z. cond (dark r z) f.dark f.light) (offset f.left c f.scale j j_in) ∙ ap (λ z. cond z f.dark f.light) e;
    }

shade-test : (b : Bool) (d l : ℕ) → d ≢ l → eqb (cond b d l) d ≡ b
shade-test true d l ne = eq-eqb d d refl
shade-test false d l ne = ne_eqb l d (λ e. ne (sym e))

-- the colours of a drawing are those that are sampled
pub sampled-are : (p : Pixels) (f : Frame) (dark : ℕ → ℕ → Bool) → IsDrawing p f dark → (r c : ℕ) → r < f.side → c < f.side → dark r c ≡ sampled p f r c
sampled-are p f dark h r c l m =
    let some = h.frame.scaled in
    let k = pixel-of p f dark r c 0 0 (dark r c) h l m (omega arith) (omega arith) refl in
    let y : f.top + r * f.scale ≡ f.top + (r * f.scale + 0) = omega arith in
    let x : f.left + c * f.scale ≡ f.left + (c * f.scale + 0) = omega arith in
    sym (ap (λ z. eqb (grey p z (f.left + c * f.scale)) f.dark) y ∙ ap (λ z. eqb (grey p (f.top + (r * f.scale + 0)) z) f.dark) x
    ∙ ap (λ z. eqb z f.dark) k.is ∙ shade-test (dark r c) f.dark f.light h.frame.differ)

-- ---- what is found is a clean picture

pub found : (p : Pixels) (f : Frame) (t : Turn) → IsDrawing p f (sampled p f) → IsTurn f.side (sampled p f) t → (g : Grid) × IsCleanPicture p (record { frame = f; turn = t }) g
found p f t h is =
    let dark : ℕ → ℕ → Bool = turned (back t) f.side (sampled p f) in
    let g : Grid = square f.side dark in
    let same : (r c : ℕ) → r < f.side → c < f.side → colour g r c ≡ dark r c = colour-square f.side dark in
    let to : Turned t f.side (colour g) (sampled p f) = λ r c l m. sym (turned-same t f.side (colour g) dark r c same l m ∙ turned-back t f.side (sampled p f) r c l m) in
    let read = turn-read t f.side (colour g) (sampled p f) h.frame.least to same is in (
      g,
      record {
        square = square-same f.side dark (colour g) (λ r c l m. sym (same r c l m));
        finders = read.0;
        fourth = read.1;
        drawing = drawing-same p f (sampled p f) (turned t f.side (colour g)) to h;
      },
    )

-- ---- a clean picture is found

pub clean-turn : (p : Pixels) (s : CleanSquare) (g : Grid) → IsCleanPicture p s g → IsTurn s.frame.side (turned s.turn s.frame.side (colour g)) s.turn
clean-turn p s g k = turn-shown s.turn s.frame.side (colour g) (turned s.turn s.frame.side (colour g)) k.drawing.frame.least (λ r c l m. refl) k.finders k.fourth

pub clean-sampled : (p : Pixels) (s : CleanSquare) (g : Grid) → IsCleanPicture p s g → IsDrawing p s.frame (sampled p s.frame)
clean-sampled p s g k = drawing-same p s.frame (turned s.turn s.frame.side (colour g)) (sampled p s.frame) (sampled-are p s.frame (turned s.turn s.frame.side (colour g)) k.drawing) k.drawing

pub clean-turn-sampled : (p : Pixels) (s : CleanSquare) (g : Grid) → IsCleanPicture p s g → IsTurn s.frame.side (sampled p s.frame) s.turn
clean-turn-sampled p s g k =
    turn-same s.turn s.frame.side (turned s.turn s.frame.side (colour g)) (sampled p s.frame) (sampled-are p s.frame (turned s.turn s.frame.side (colour g)) k.drawing) (clean-turn p s g k)

-- ---- the two grey values

pub greys-are : (p : Pixels) (f : Frame) (dark : ℕ → ℕ → Bool) (one other : ℕ) → IsDrawing p f dark → HasGreys p one other → ((one ≡ f.light) × (other ≡ f.dark)) ⊎ ((one ≡ f.dark) × (other ≡ f.light))
greys-are p f dark one other h k =
    let row = k.row_in in
    let col = k.col_in in
    let a = k.first ∙ h.pixels 0 0 (omega arith) (omega arith) in
    let b = k.second ∙ h.pixels k.row k.col row col in
    elim (grey-two f dark 0 0) [
      | inl d ↦ elim (grey-two f dark k.row k.col) [ inl e ↦ absurd (k.differ (b ∙ e ∙ sym (a ∙ d))) | inr e ↦ inr (a ∙ d, b ∙ e) ]
      | inr d ↦ elim (grey-two f dark k.row k.col) [ inl e ↦ inl (a ∙ d, b ∙ e) | inr e ↦ absurd (k.differ (b ∙ e ∙ sym (a ∙ d))) ]
    ]

-- a drawing has a dark pixel and a light one
pub light-pixel : (p : Pixels) (f : Frame) (dark : ℕ → ℕ → Bool) (t : Turn) → IsDrawing p f dark → IsTurn f.side dark t → (c : ℕ) × PixelOf p f 0 c 0 0 false
light-pixel p f dark Upright h is = let least = h.frame.least in let some = h.frame.scaled in (7, pixel-of p f dark 0 7 0 0 false h (omega arith) (omega arith) (omega arith) (omega arith) (top-begins f.side dark least is.0).next)
light-pixel p f dark Quarter h is = let least = h.frame.least in let some = h.frame.scaled in (7, pixel-of p f dark 0 7 0 0 false h (omega arith) (omega arith) (omega arith) (omega arith) (top-begins f.side dark least is.0).next)
light-pixel p f dark Half h is = let least = h.frame.least in let some = h.frame.scaled in (f.side - 8, pixel-of p f dark 0 (f.side - 8) 0 0 false h (omega arith) (omega arith) (omega arith) (omega arith) (top-ends f.side dark least is.1).next)
light-pixel p f dark ThreeQuarters h is = let least = h.frame.least in let some = h.frame.scaled in (7, pixel-of p f dark 0 7 0 0 false h (omega arith) (omega arith) (omega arith) (omega arith) (top-begins f.side dark least is.0).next)

-- a picture in one grey value is no drawing
pub one-grey : (p : Pixels) (f : Frame) (dark : ℕ → ℕ → Bool) (t : Turn) → IsDrawing p f dark → IsTurn f.side dark t → ((y x : ℕ) → y < p.height → x < p.width → grey p y x ≡ grey p 0 0) → ⊥
one-grey p f dark t h is all =
    let a = (corners p f dark t h is).top in
    let b = light-pixel p f dark t h is in
    h.frame.differ (sym a.1.is ∙ all f.top a.0 a.1.row_in a.1.col_in ∙ sym (all (f.top + (0 * f.scale + 0)) (f.left + (b.0 * f.scale + 0)) b.1.row_in b.1.col_in) ∙ b.1.is)

-- what a second try finds
pub tried-again : (o : Option CleanSquare) (P Q : Type 0) (R : CleanSquare → Type 0) → (P → Q) → MatchOption o P R → MatchOption o Q R
tried-again None P Q R f m = f m
tried-again (Some s) P Q R f m = m
