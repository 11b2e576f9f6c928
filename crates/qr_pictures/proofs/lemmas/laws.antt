-- A picture is the clean picture of one square at most.
use Rattle.std.proofs.Common.{◌≡◌, ◌⊎◌, ℕ, ◌+◌, ◌-◌, ◌*◌, ◌/◌, ◌%◌, ◌<◌, ◌≤◌, Bool, true, false, not, eqb, List, get_or, map, refl, sym, ap, subst, ◌∙◌, arith, inl, inr}
use Rattle.std.specs.List.{range_with_len}
use Rattle.std.proofs.lemmas.{Bool.{cases_lt, cases_order}, List.FromFn.{get_or-map-range_with_len, length-map-range_with_len}, Nat.{div-mul-add, mod-mul-add, mul-add-lt}}
use Rattle.qr_matrix.{proofs.Facts.{square-same}, specs.{Bytes.{byte_of, square_of_bytes}, Grid.{Grid, colour, square}}}
use Rattle.qr_layout.specs.Region.{ring_of}
use Rattle.qr_pictures.specs.Clean.{IsCleanPicture}
use Rattle.qr_pictures.specs.Finders.{HasFinder}
use Rattle.qr_pictures.specs.Pixels.{IsDrawing, Pixels, grey}
use Rattle.qr_pictures.specs.Steps.{BeginsWith, EndsWith, HasThreeEnds, IsTurn, back, sampled}
use Rattle.qr_pictures.specs.Turns.{turned}
use Rattle.qr_pictures.specs.declared.clean.CleanSquare.{CleanSquare}
use Rattle.qr_pictures.specs.declared.frame.Frame.{Frame}
use Rattle.qr_pictures.specs.declared.turn.Turn.{Turn, TheVariants.{Upright, Quarter, Half, ThreeQuarters}}
use Rattle.qr_pictures.proofs.lemmas.picture.{above, after, before, below, grey-two}
use Rattle.qr_pictures.proofs.lemmas.turn.{turn-one, turned-from}
use Rattle.qr_pictures.proofs.lemmas.frame.{Corners, DarkAt, IsLine, corners, margin, ring-light, three-ends}
use Rattle.qr_pictures.proofs.lemmas.clean.{PixelOf, clean-sampled, clean-turn-sampled, light-pixel, pixel-of, sampled-are}

-- a drawing of a square with three finder patterns
record Shown (p : Pixels) (f : Frame) : Type 0 where
  pub turn : Turn
  pub drawing : IsDrawing p f (sampled p f)
  pub is : IsTurn f.side (sampled p f) turn

shown : (p : Pixels) (s : CleanSquare) (g : Grid) → IsCleanPicture p s g → Shown p s.frame
shown p s g k = record { turn = s.turn; drawing = clean-sampled p s g k; is = clean-turn-sampled p s g k }

corners-of : (p : Pixels) (f : Frame) → Shown p f → Corners p f
corners-of p f k = corners p f (sampled p f) k.turn k.drawing k.is

-- ---- the box, if the two grey values are the same

-- a pixel cannot be dark and light
both : (p : Pixels) (f e : Frame) (y x : ℕ) → Shown p f → e.light ≡ f.light → DarkAt p f y x → grey p y x ≡ e.light → ⊥
both p f e y x k same d l = k.drawing.frame.differ (sym d.is ∙ l ∙ same)

top-not-less : (p : Pixels) (f e : Frame) → Shown p f → Shown p e → e.light ≡ f.light → f.top < e.top → ⊥
top-not-less p f e k m same lt =
    let c = (corners-of p f k).top in both p f e f.top c.0 k same c.1 (margin p e (sampled p e) f.top c.0 m.drawing c.1.row_in c.1.col_in (above e f.top c.0 lt))

bottom-not-more : (p : Pixels) (f e : Frame) → Shown p f → Shown p e → e.light ≡ f.light → e.top + e.side * e.scale < f.top + f.side * f.scale → ⊥
bottom-not-more p f e k m same lt =
    let c = (corners-of p f k).bottom in
    both p f e (f.top + f.side * f.scale - 1) c.0 k same c.1 (margin p e (sampled p e) (f.top + f.side * f.scale - 1) c.0 m.drawing c.1.row_in c.1.col_in (below e (f.top + f.side * f.scale - 1) c.0 (omega arith)))

left-not-less : (p : Pixels) (f e : Frame) → Shown p f → Shown p e → e.light ≡ f.light → f.left < e.left → ⊥
left-not-less p f e k m same lt =
    elim (corners-of p f k).left [
      | inl d ↦ both p f e f.top f.left k same d (margin p e (sampled p e) f.top f.left m.drawing d.row_in d.col_in (before e f.top f.left lt))
      | inr d ↦ both p f e (f.top + f.side * f.scale - 1) f.left k same d (margin p e (sampled p e) (f.top + f.side * f.scale - 1) f.left m.drawing d.row_in d.col_in (before e (f.top + f.side * f.scale - 1) f.left lt))
    ]

not-less : (m n : ℕ) → (m < n → ⊥) → (n < m → ⊥) → m ≡ n
not-less m n a b = elim (cases_order m n) [ inl e ↦ e | inr o ↦ elim o [ inl l ↦ absurd (a l) | inr l ↦ absurd (b l) ] ]

top-one : (p : Pixels) (f e : Frame) → Shown p f → Shown p e → e.light ≡ f.light → f.top ≡ e.top
top-one p f e k m same = not-less f.top e.top (top-not-less p f e k m same) (top-not-less p e f m k (sym same))

left-one : (p : Pixels) (f e : Frame) → Shown p f → Shown p e → e.light ≡ f.light → f.left ≡ e.left
left-one p f e k m same = not-less f.left e.left (left-not-less p f e k m same) (left-not-less p e f m k (sym same))

bottom-one : (p : Pixels) (f e : Frame) → Shown p f → Shown p e → e.light ≡ f.light → f.top + f.side * f.scale ≡ e.top + e.side * e.scale
bottom-one p f e k m same = not-less (f.top + f.side * f.scale) (e.top + e.side * e.scale) (bottom-not-more p e f m k (sym same)) (bottom-not-more p f e k m same)

-- ---- the scale

-- a row of the picture as a list
line-of : Pixels → ℕ → List ℕ
line-of p y = map (grey p y) (range_with_len 0 p.width)

line-is : (p : Pixels) (y : ℕ) → IsLine p (line-of p y) y
unfolding line-of
line-is p y = record { len = length-map-range_with_len (grey p y) 0 p.width; shows = λ x l. get_or-map-range_with_len (grey p y) 0 p.width x x 0 l (omega arith) }

begins-one : (line : List ℕ) (left w v dark : ℕ) → BeginsWith line left w dark → BeginsWith line left v dark → w ≡ v
begins-one line left w v dark a b =
    not-less w v (λ lt. a.other (b.run.each (left + w) (omega arith) (omega arith))) (λ lt. b.other (a.run.each (left + v) (omega arith) (omega arith)))

ends-one : (line : List ℕ) (right w v dark : ℕ) → EndsWith line right w dark → EndsWith line right v dark → w ≡ v
ends-one line right w v dark a b =
    let in_a = a.inside in
    let in_b = b.inside in
    not-less w v (λ lt. a.other (b.run.each (right - w - 1) (omega arith) (omega arith))) (λ lt. b.other (a.run.each (right - v - 1) (omega arith) (omega arith)))

width-one : (first last : List ℕ) (left right w v dark : ℕ) → HasThreeEnds first last left right w dark → HasThreeEnds first last left right v dark → w ≡ v
width-one first last left right w v dark (inl a) (inl b) = ends-one first right w v dark a.0 b.0
width-one first last left right w v dark (inl a) (inr (inl b)) = ends-one first right w v dark a.0 b.1
width-one first last left right w v dark (inl a) (inr (inr b)) = begins-one last left w v dark a.1 b.1
width-one first last left right w v dark (inr (inl a)) (inl b) = ends-one first right w v dark a.1 b.0
width-one first last left right w v dark (inr (inl a)) (inr (inl b)) = ends-one first right w v dark a.1 b.1
width-one first last left right w v dark (inr (inl a)) (inr (inr b)) = begins-one first left w v dark a.0 b.0
width-one first last left right w v dark (inr (inr a)) (inl b) = begins-one last left w v dark a.1 b.1
width-one first last left right w v dark (inr (inr a)) (inr (inl b)) = begins-one first left w v dark a.0 b.0
width-one first last left right w v dark (inr (inr a)) (inr (inr b)) = begins-one first left w v dark a.0 b.0

-- the ends of rows, told by the edges of the square
ends-at : (p : Pixels) (f : Frame) (top bottom left right dark : ℕ) → Shown p f → f.top ≡ top → f.top + f.side * f.scale ≡ bottom → f.left ≡ left → f.left + f.side * f.scale ≡ right → f.dark ≡ dark
    → HasThreeEnds (line-of p top) (line-of p (bottom - 1)) left right (7 * f.scale) dark
ends-at p f top bottom left right dark k a b c d e =
    let now = three-ends p f (sampled p f) k.turn (line-of p f.top) (line-of p (f.top + f.side * f.scale - 1)) k.drawing k.is (line-is p f.top) (line-is p (f.top + f.side * f.scale - 1)) in
    subst (λ z. HasThreeEnds (line-of p z) (line-of p (bottom - 1)) left right (7 * f.scale) dark) a
    (subst (λ z. HasThreeEnds (line-of p f.top) (line-of p (z - 1)) left right (7 * f.scale) dark) b
    (subst (λ z. HasThreeEnds (line-of p f.top) (line-of p (f.top + f.side * f.scale - 1)) z right (7 * f.scale) dark) c
    (subst (λ z. HasThreeEnds (line-of p f.top) (line-of p (f.top + f.side * f.scale - 1)) f.left z (7 * f.scale) dark) d
    (subst (λ z. HasThreeEnds (line-of p f.top) (line-of p (f.top + f.side * f.scale - 1)) f.left (f.left + f.side * f.scale) (7 * f.scale) z) e now))))

sizes : (p : Pixels) (f e : Frame) → Shown p f → Shown p e → e.light ≡ f.light → f.side * f.scale ≡ e.side * e.scale
sizes p f e k m same = let a = top-one p f e k m same in let b = bottom-one p f e k m same in omega arith

scale-one : (p : Pixels) (f e : Frame) → Shown p f → Shown p e → e.light ≡ f.light → e.dark ≡ f.dark → f.scale ≡ e.scale
scale-one p f e k m same dark =
    let size = sizes p f e k m same in
    let left = left-one p f e k m same in
    let a = ends-at p f f.top (f.top + f.side * f.scale) f.left (f.left + f.side * f.scale) f.dark k refl refl refl refl refl in
    let b = ends-at p e f.top (f.top + f.side * f.scale) f.left (f.left + f.side * f.scale) f.dark m (sym (top-one p f e k m same)) (sym (bottom-one p f e k m same)) (sym left) (omega arith) dark in
    let w = width-one (line-of p f.top) (line-of p (f.top + f.side * f.scale - 1)) f.left (f.left + f.side * f.scale) (7 * f.scale) (7 * e.scale) f.dark a b in
    omega arith

side-of : (n scale : ℕ) → 1 ≤ scale → n * scale / scale ≡ n
side-of n scale some = ap (λ z. z / scale) (let e : n * scale ≡ n * scale + 0 = omega arith in e) ∙ div-mul-add n scale 0 some

side-one : (p : Pixels) (f e : Frame) → Shown p f → Shown p e → e.light ≡ f.light → e.dark ≡ f.dark → f.side ≡ e.side
side-one p f e k m same dark =
    let scale = scale-one p f e k m same dark in
    sym (side-of f.side f.scale k.drawing.frame.scaled) ∙ ap (λ z. z / f.scale) (sizes p f e k m same) ∙ ap (λ z. e.side * e.scale / z) scale ∙ side-of e.side e.scale m.drawing.frame.scaled

frame-one : (p : Pixels) (f e : Frame) → Shown p f → Shown p e → e.light ≡ f.light → e.dark ≡ f.dark → f ≡ e
frame-one p f e k m same dark =
    let side = side-one p f e k m same dark in
    let scale = scale-one p f e k m same dark in
    let left = left-one p f e k m same in
    let top = top-one p f e k m same in
    let d = sym dark in
    let l = sym same in
    λ i. record { side = side i; scale = scale i; left = left i; top = top i; dark = d i; light = l i }

-- ---- the two grey values cannot be exchanged

-- at each edge of the square there is a finder pattern
left-finder : (t : Turn) (n : ℕ) (dark : ℕ → ℕ → Bool) → IsTurn n dark t → HasFinder n dark 3 3 ⊎ HasFinder n dark (n - 4) 3
left-finder Upright n dark is = inl is.0
left-finder Quarter n dark is = inl is.0
left-finder Half n dark is = inr is.2
left-finder ThreeQuarters n dark is = inl is.0

right-finder : (t : Turn) (n : ℕ) (dark : ℕ → ℕ → Bool) → IsTurn n dark t → HasFinder n dark 3 (n - 4) ⊎ HasFinder n dark (n - 4) (n - 4)
right-finder Upright n dark is = inl is.1
right-finder Quarter n dark is = inl is.1
right-finder Half n dark is = inl is.1
right-finder ThreeQuarters n dark is = inr is.3

top-finder : (t : Turn) (n : ℕ) (dark : ℕ → ℕ → Bool) → IsTurn n dark t → HasFinder n dark 3 3 ⊎ HasFinder n dark 3 (n - 4)
top-finder Upright n dark is = inl is.0
top-finder Quarter n dark is = inl is.0
top-finder Half n dark is = inr is.1
top-finder ThreeQuarters n dark is = inl is.0

bottom-finder : (t : Turn) (n : ℕ) (dark : ℕ → ℕ → Bool) → IsTurn n dark t → HasFinder n dark (n - 4) 3 ⊎ HasFinder n dark (n - 4) (n - 4)
bottom-finder Upright n dark is = inl is.2
bottom-finder Quarter n dark is = inr is.3
bottom-finder Half n dark is = inl is.2
bottom-finder ThreeQuarters n dark is = inl is.2

-- a light pixel in the separator of a finder pattern
separator : (p : Pixels) (f : Frame) (k : Shown p f) (a b r c i j : ℕ) → HasFinder f.side (sampled p f) a b → r < f.side → c < f.side → i < f.scale → j < f.scale → ring_of a b r c ≡ 4 → PixelOf p f r c i j false
separator p f k a b r c i j h l m i_in j_in e = pixel-of p f (sampled p f) r c i j false k.drawing l m i_in j_in (ring-light f.side (sampled p f) a b r c h l m e)

-- each edge of the picture has a light pixel
left-light : (p : Pixels) (f : Frame) → Shown p f → (y : ℕ) × (y < p.height) × (grey p y 0 ≡ f.light)
left-light p f k =
    let c = (corners-of p f k).top.1 in
    let row = c.row_in in
    let col = c.col_in in
    let least = k.drawing.frame.least in
    let some = k.drawing.frame.scaled in
    elim (cases_lt 0 f.left) [
      | inl lt ↦ (0, omega arith, margin p f (sampled p f) 0 0 k.drawing (omega arith) (omega arith) (before f 0 0 lt))
      | inr zero ↦
          let x : 0 ≡ f.left + (0 * f.scale + 0) = omega arith in
          elim (left-finder k.turn f.side (sampled p f) k.is) [
            | inl h ↦ let d = separator p f k 3 3 7 0 0 0 h (omega arith) (omega arith) (omega arith) (omega arith) (omega arith) in
                (f.top + (7 * f.scale + 0), d.row_in, ap (λ z. grey p (f.top + (7 * f.scale + 0)) z) x ∙ d.is)
            | inr h ↦ let d = separator p f k (f.side - 4) 3 (f.side - 8) 0 0 0 h (omega arith) (omega arith) (omega arith) (omega arith) (omega arith) in
                (f.top + ((f.side - 8) * f.scale + 0), d.row_in, ap (λ z. grey p (f.top + ((f.side - 8) * f.scale + 0)) z) x ∙ d.is)
          ]
    ]

top-light : (p : Pixels) (f : Frame) → Shown p f → (x : ℕ) × (x < p.width) × (grey p 0 x ≡ f.light)
top-light p f k =
    let c = (corners-of p f k).top.1 in
    let row = c.row_in in
    let col = c.col_in in
    let least = k.drawing.frame.least in
    let some = k.drawing.frame.scaled in
    elim (cases_lt 0 f.top) [
      | inl lt ↦ (0, omega arith, margin p f (sampled p f) 0 0 k.drawing (omega arith) (omega arith) (above f 0 0 lt))
      | inr zero ↦
          let y : 0 ≡ f.top + (0 * f.scale + 0) = omega arith in
          elim (top-finder k.turn f.side (sampled p f) k.is) [
            | inl h ↦ let d = separator p f k 3 3 0 7 0 0 h (omega arith) (omega arith) (omega arith) (omega arith) (omega arith) in
                (f.left + (7 * f.scale + 0), d.col_in, ap (λ z. grey p z (f.left + (7 * f.scale + 0))) y ∙ d.is)
            | inr h ↦ let d = separator p f k 3 (f.side - 4) 0 (f.side - 8) 0 0 h (omega arith) (omega arith) (omega arith) (omega arith) (omega arith) in
                (f.left + ((f.side - 8) * f.scale + 0), d.col_in, ap (λ z. grey p z (f.left + ((f.side - 8) * f.scale + 0))) y ∙ d.is)
          ]
    ]

-- the last pixel of a square that reaches the edge
last-pixel : (start n scale edge : ℕ) → 21 ≤ n → 1 ≤ scale → start + n * scale ≡ edge → edge - 1 ≡ start + ((n - 1) * scale + (scale - 1))
last-pixel start n scale edge some one e =
    let f : n * scale ≡ (n - 1) * scale + scale = ap (λ z. z * scale) (let g : n ≡ n - 1 + 1 = omega arith in g) ∙ omega arith in omega arith

right-light : (p : Pixels) (f : Frame) → Shown p f → (y : ℕ) × (y < p.height) × (grey p y (p.width - 1) ≡ f.light)
right-light p f k =
    let c = (corners-of p f k).top.1 in
    let row = c.row_in in
    let col = c.col_in in
    let least = k.drawing.frame.least in
    let some = k.drawing.frame.scaled in
    let across = k.drawing.frame.across in
    elim (cases_lt (f.left + f.side * f.scale) p.width) [
      | inl lt ↦ (0, omega arith, margin p f (sampled p f) 0 (p.width - 1) k.drawing (omega arith) (omega arith) (after f 0 (p.width - 1) (omega arith)))
      | inr zero ↦
          let x : p.width - 1 ≡ f.left + ((f.side - 1) * f.scale + (f.scale - 1)) = last-pixel f.left f.side f.scale p.width least some (omega arith) in
          elim (right-finder k.turn f.side (sampled p f) k.is) [
            | inl h ↦ let d = separator p f k 3 (f.side - 4) 7 (f.side - 1) 0 (f.scale - 1) h (omega arith) (omega arith) (omega arith) (omega arith) (omega arith) in
                (f.top + (7 * f.scale + 0), d.row_in, ap (λ z. grey p (f.top + (7 * f.scale + 0)) z) x ∙ d.is)
            | inr h ↦ let d = separator p f k (f.side - 4) (f.side - 4) (f.side - 8) (f.side - 1) 0 (f.scale - 1) h (omega arith) (omega arith) (omega arith) (omega arith) (omega arith) in
                (f.top + ((f.side - 8) * f.scale + 0), d.row_in, ap (λ z. grey p (f.top + ((f.side - 8) * f.scale + 0)) z) x ∙ d.is)
          ]
    ]

bottom-light : (p : Pixels) (f : Frame) → Shown p f → (x : ℕ) × (x < p.width) × (grey p (p.height - 1) x ≡ f.light)
bottom-light p f k =
    let c = (corners-of p f k).top.1 in
    let row = c.row_in in
    let col = c.col_in in
    let least = k.drawing.frame.least in
    let some = k.drawing.frame.scaled in
    let down = k.drawing.frame.down in
    elim (cases_lt (f.top + f.side * f.scale) p.height) [
      | inl lt ↦ (0, omega arith, margin p f (sampled p f) (p.height - 1) 0 k.drawing (omega arith) (omega arith) (below f (p.height - 1) 0 (omega arith)))
      | inr zero ↦
          let y : p.height - 1 ≡ f.top + ((f.side - 1) * f.scale + (f.scale - 1)) = last-pixel f.top f.side f.scale p.height least some (omega arith) in
          elim (bottom-finder k.turn f.side (sampled p f) k.is) [
            | inl h ↦ let d = separator p f k (f.side - 4) 3 (f.side - 1) 7 (f.scale - 1) 0 h (omega arith) (omega arith) (omega arith) (omega arith) (omega arith) in
                (f.left + (7 * f.scale + 0), d.col_in, ap (λ z. grey p z (f.left + (7 * f.scale + 0))) y ∙ d.is)
            | inr h ↦ let d = separator p f k (f.side - 4) (f.side - 4) (f.side - 1) (f.side - 8) (f.scale - 1) 0 h (omega arith) (omega arith) (omega arith) (omega arith) (omega arith) in
                (f.left + ((f.side - 8) * f.scale + 0), d.col_in, ap (λ z. grey p z (f.left + ((f.side - 8) * f.scale + 0))) y ∙ d.is)
          ]
    ]

-- so there are no margins if dark and light can be exchanged
record Whole (p : Pixels) (f : Frame) : Type 0 where
  pub left : f.left ≡ 0
  pub top : f.top ≡ 0
  pub right : f.left + f.side * f.scale ≡ p.width
  pub bottom : f.top + f.side * f.scale ≡ p.height

whole : (p : Pixels) (f e : Frame) → Shown p f → Shown p e → e.light ≡ f.dark → Whole p f
whole p f e k m light =
    let c = (corners-of p f k).top.1 in
    let row = c.row_in in
    let col = c.col_in in
    let differ = k.drawing.frame.differ in
    let across = k.drawing.frame.across in
    let down = k.drawing.frame.down in
    let l = left-light p e m in
    let t = top-light p e m in
    let r = right-light p e m in
    let b = bottom-light p e m in
    record {
      left = elim (cases_lt 0 f.left) [ inl lt ↦ absurd (differ (sym light ∙ sym l.2 ∙ margin p f (sampled p f) l.0 0 k.drawing l.1 (omega arith) (before f l.0 0 lt))) | inr z ↦ omega arith ];
      top = elim (cases_lt 0 f.top) [ inl lt ↦ absurd (differ (sym light ∙ sym t.2 ∙ margin p f (sampled p f) 0 t.0 k.drawing (omega arith) t.1 (above f 0 t.0 lt))) | inr z ↦ omega arith ];
      right = elim (cases_lt (f.left + f.side * f.scale) p.width) [ inl lt ↦ absurd (differ (sym light ∙ sym r.2 ∙ margin p f (sampled p f) r.0 (p.width - 1) k.drawing r.1 (omega arith) (after f r.0 (p.width - 1) (omega arith)))) | inr z ↦ omega arith ];
      bottom = elim (cases_lt (f.top + f.side * f.scale) p.height) [ inl lt ↦ absurd (differ (sym light ∙ sym b.2 ∙ margin p f (sampled p f) (p.height - 1) b.0 k.drawing (omega arith) b.1 (below f (p.height - 1) b.0 (omega arith)))) | inr z ↦ omega arith ];
    }

clash : (p : Pixels) (f e : Frame) (y x v u : ℕ) → Shown p f → e.dark ≡ f.light → DarkAt p f y x → DarkAt p e v u → y ≡ v → x ≡ u → ⊥
clash p f e y x v u k dark a b g h = k.drawing.frame.differ (sym a.is ∙ ap (λ z. grey p z x) g ∙ ap (λ z. grey p v z) h ∙ b.is ∙ dark)

no-exchange : (p : Pixels) (f e : Frame) → Shown p f → Shown p e → e.light ≡ f.dark → e.dark ≡ f.light → ⊥
no-exchange p f e k m light dark =
    let a = whole p f e k m light in
    let b = whole p e f m k (sym dark) in
    let left : f.left ≡ e.left = a.left ∙ sym b.left in
    let top : f.top ≡ e.top = a.top ∙ sym b.top in
    let right : f.left + f.side * f.scale - 1 ≡ e.left + e.side * e.scale - 1 = ap (λ z. z - 1) (a.right ∙ sym b.right) in
    let bottom : f.top + f.side * f.scale - 1 ≡ e.top + e.side * e.scale - 1 = ap (λ z. z - 1) (a.bottom ∙ sym b.bottom) in
    elim (corners-of p f k).rows [
      | inl r ↦ elim (corners-of p e m).cols [
        | inl c ↦ clash p f e f.top f.left e.top e.left k dark r.0 c.0 top left
        | inr c ↦ clash p f e f.top (f.left + f.side * f.scale - 1) e.top (e.left + e.side * e.scale - 1) k dark r.1 c.0 top right
      ]
      | inr r ↦ elim (corners-of p e m).cols [
        | inl c ↦ clash p f e (f.top + f.side * f.scale - 1) f.left (e.top + e.side * e.scale - 1) e.left k dark r.0 c.1 bottom left
        | inr c ↦ clash p f e (f.top + f.side * f.scale - 1) (f.left + f.side * f.scale - 1) (e.top + e.side * e.scale - 1) (e.left + e.side * e.scale - 1) k dark r.1 c.1 bottom right
      ]
    ]

greys-one : (p : Pixels) (f e : Frame) → Shown p f → Shown p e → (e.light ≡ f.light) × (e.dark ≡ f.dark)
greys-one p f e k m =
    let a = (corners-of p e m).top in
    let b = light-pixel p e (sampled p e) m.turn m.drawing m.is in
    let d = k.drawing.pixels e.top a.0 a.1.row_in a.1.col_in in
    let l = k.drawing.pixels (e.top + (0 * e.scale + 0)) (e.left + (b.0 * e.scale + 0)) b.1.row_in b.1.col_in in
    elim (grey-two f (sampled p f) e.top a.0) [
      | inl dark ↦ elim (grey-two f (sampled p f) (e.top + (0 * e.scale + 0)) (e.left + (b.0 * e.scale + 0))) [
        | inl same ↦ absurd (m.drawing.frame.differ (sym a.1.is ∙ d ∙ dark ∙ sym (sym b.1.is ∙ l ∙ same)))
        | inr light ↦ (sym b.1.is ∙ l ∙ light, sym a.1.is ∙ d ∙ dark)
      ]
      | inr light ↦ elim (grey-two f (sampled p f) (e.top + (0 * e.scale + 0)) (e.left + (b.0 * e.scale + 0))) [
        | inl dark ↦ absurd (no-exchange p f e k m (sym b.1.is ∙ l ∙ dark) (sym a.1.is ∙ d ∙ light))
        | inr same ↦ absurd (m.drawing.frame.differ (sym a.1.is ∙ d ∙ light ∙ sym (sym b.1.is ∙ l ∙ same)))
      ]
    ]

-- ---- the square

-- the square that is drawn, as it is before it is turned
abbrev pub square-at : Pixels → CleanSquare → Grid
square-at p s = square s.frame.side (turned (back s.turn) s.frame.side (sampled p s.frame))

pub square-is : (p : Pixels) (s : CleanSquare) (g : Grid) → IsCleanPicture p s g → g ≡ square-at p s
square-is p s g k =
    let n = s.frame.side in
    let same = sampled-are p s.frame (turned s.turn n (colour g)) k.drawing in
    k.square ∙ square-same n (colour g) (turned (back s.turn) n (sampled p s.frame)) (turned-from s.turn n (colour g) (sampled p s.frame) (λ r c l m. sym (same r c l m)))

pub one-square : (p : Pixels) (s t : CleanSquare) (g h : Grid) → IsCleanPicture p s g → IsCleanPicture p t h → (s ≡ t) × (g ≡ h)
one-square p s t g h k m =
    let a = shown p s g k in
    let b = shown p t h m in
    let greys = greys-one p s.frame t.frame a b in
    let frame = frame-one p s.frame t.frame a b greys.0 greys.1 in
    let turn = turn-one s.turn t.turn s.frame.side (sampled p s.frame) (clean-turn-sampled p s g k) (subst (λ (f : Frame). IsTurn f.side (sampled p f) t.turn) (sym frame) (clean-turn-sampled p t h m)) in
    let same : s ≡ t = λ i. record { frame = frame i; turn = turn i } in
    (same, square-is p s g k ∙ ap (square-at p) same ∙ sym (square-is p t h m))

-- ---- the modules as bytes

byte-colour : (b : Bool) → not (eqb (byte_of b) 0) ≡ b
byte-colour true = refl
byte-colour false = refl

-- bytes that are the modules of the square that is drawn
pub square-written : (p : Pixels) (s : CleanSquare) (g : Grid) (bytes : List ℕ) → IsCleanPicture p s g
    → ((k : ℕ) → k < s.frame.side * s.frame.side → get_or bytes k 0 ≡ byte_of (turned (back s.turn) s.frame.side (sampled p s.frame) (k / s.frame.side) (k % s.frame.side)))
    → square_of_bytes s.frame.side bytes ≡ g
square-written p s g bytes k written =
    let n = s.frame.side in
    let dark : ℕ → ℕ → Bool = turned (back s.turn) n (sampled p s.frame) in
    square-same n (λ r c. not (eqb (get_or bytes (r * n + c) 0) 0)) dark (λ r c l m.
    let row = div-mul-add r n c m in
    let col = mod-mul-add r n c m in
    let at = written (r * n + c) (mul-add-lt r n c n l m) in
    ap (λ z. not (eqb z 0)) at ∙ byte-colour (dark ((r * n + c) / n) ((r * n + c) % n)) ∙ ap (λ z. dark z ((r * n + c) % n)) row ∙ ap (λ z. dark r z) col)
    ∙ sym (square-is p s g k)

byte-small : (b : Bool) → byte_of b ≤ 1
byte-small true = omega arith
byte-small false = omega arith

pub byte-at-most : (n : ℕ) (b : Bool) → n ≡ byte_of b → n ≤ 1
byte-at-most n b e = let l = byte-small b in omega arith
