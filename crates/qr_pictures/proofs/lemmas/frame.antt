-- The frame of a drawing is the one that is guessed.
use Rattle.std.proofs.Common.{◌≡◌, ◌≢◌, ◌⊎◌, ℕ, ◌+◌, ◌-◌, ◌*◌, ◌/◌, ◌%◌, ◌<◌, ◌≤◌, Bool, true, false, cond, eqb, min, max, ◌||◌, not, List, length, get_or, take, drop, refl, sym, ap, subst, ◌∙◌, arith, inl, inr}
use Rattle.std.proofs.Math.Nat.{mul-le-mul_right}
use Rattle.std.proofs.lemmas.{Bool.{cases_lt, cases_order}, Nat.{div_below, div-mul-add, le-div, mod-mul-add}, List.{get_or-take, length-take-le}}
use Rattle.qr_layout.specs.Region.{ring_of}
use Rattle.qr_pictures.specs.Finders.{HasFinder}
use Rattle.qr_pictures.specs.Pixels.{IsDrawing, IsFrameIn, Pixels, grey, is_inside}
use Rattle.qr_pictures.specs.Steps.{BeginsWith, EndsWith, HasThreeEnds, IsTurn}
use Rattle.qr_pictures.specs.declared.frame.Frame.{Frame}
use Rattle.qr_pictures.specs.declared.turn.Turn.{Turn, TheVariants.{Upright, Quarter, Half, ThreeQuarters}}
use Rattle.qr_pictures.proofs.lemmas.lines.{IsEndOfOthers, IsFirstOther, piece, piece-length}
use Rattle.qr_pictures.proofs.lemmas.picture.{above, after, before, below, grey-outside, shown-inside}

-- ---- the edges of finder patterns

ring-dark : (n : ℕ) (dark : ℕ → ℕ → Bool) (a b r c : ℕ) → HasFinder n dark a b → r < n → c < n → ring_of a b r c ≡ 3 → dark r c ≡ true
ring-dark n dark a b r c h l m e = h.rings r c l m (omega arith) ∙ ap (λ (z : ℕ). not (eqb z 2 || eqb z 4)) e

pub ring-light : (n : ℕ) (dark : ℕ → ℕ → Bool) (a b r c : ℕ) → HasFinder n dark a b → r < n → c < n → ring_of a b r c ≡ 4 → dark r c ≡ false
ring-light n dark a b r c h l m e = h.rings r c l m (omega arith) ∙ ap (λ (z : ℕ). not (eqb z 2 || eqb z 4)) e

-- a row of modules that begins with an edge of a finder pattern, and one that ends with it
pub record Begins (dark : ℕ → ℕ → Bool) (r : ℕ) : Type 0 where
  pub run : (c : ℕ) → c < 7 → dark r c ≡ true
  pub next : dark r 7 ≡ false

pub record Ends (n : ℕ) (dark : ℕ → ℕ → Bool) (r : ℕ) : Type 0 where
  pub run : (c : ℕ) → n - 7 ≤ c → c < n → dark r c ≡ true
  pub next : dark r (n - 8) ≡ false

pub top-begins : (n : ℕ) (dark : ℕ → ℕ → Bool) → 21 ≤ n → HasFinder n dark 3 3 → Begins dark 0
top-begins n dark some h = record { run = λ c l. ring-dark n dark 3 3 0 c h (omega arith) (omega arith) (omega arith); next = ring-light n dark 3 3 0 7 h (omega arith) (omega arith) (omega arith) }

pub top-ends : (n : ℕ) (dark : ℕ → ℕ → Bool) → 21 ≤ n → HasFinder n dark 3 (n - 4) → Ends n dark 0
top-ends n dark some h = record { run = λ c g l. ring-dark n dark 3 (n - 4) 0 c h (omega arith) l (omega arith); next = ring-light n dark 3 (n - 4) 0 (n - 8) h (omega arith) (omega arith) (omega arith) }

pub bottom-begins : (n : ℕ) (dark : ℕ → ℕ → Bool) → 21 ≤ n → HasFinder n dark (n - 4) 3 → Begins dark (n - 1)
bottom-begins n dark some h = record { run = λ c l. ring-dark n dark (n - 4) 3 (n - 1) c h (omega arith) (omega arith) (omega arith); next = ring-light n dark (n - 4) 3 (n - 1) 7 h (omega arith) (omega arith) (omega arith) }

pub bottom-ends : (n : ℕ) (dark : ℕ → ℕ → Bool) → 21 ≤ n → HasFinder n dark (n - 4) (n - 4) → Ends n dark (n - 1)
bottom-ends n dark some h = record { run = λ c g l. ring-dark n dark (n - 4) (n - 4) (n - 1) c h (omega arith) l (omega arith); next = ring-light n dark (n - 4) (n - 4) (n - 1) (n - 8) h (omega arith) (omega arith) (omega arith) }

-- ---- the first and the last row of pixels of the square

-- the size of the square in pixels
pub size-cut : (n k scale : ℕ) → n ≡ k + 7 → n * scale ≡ k * scale + 7 * scale
size-cut n k scale e = ap (λ z. z * scale) e ∙ omega arith

pub size-least : (n scale : ℕ) → 21 ≤ n → 1 ≤ scale → 8 * scale < n * scale
size-least n scale some one = let le : 21 * scale ≤ n * scale = mul-le-mul_right scale some in omega arith

pub last-module : (n scale : ℕ) → 21 ≤ n → 1 ≤ scale → (n * scale - 1) / scale ≡ n - 1
last-module n scale some one =
    let e : n * scale ≡ (n - 1) * scale + scale = ap (λ z. z * scale) (let f : n ≡ n - 1 + 1 = omega arith in f) ∙ omega arith in
    let lt : scale - 1 < scale = omega arith in
    ap (λ z. z / scale) (let f : n * scale - 1 ≡ (n - 1) * scale + (scale - 1) = omega arith in f) ∙ div-mul-add (n - 1) scale (scale - 1) lt

-- row `y` of the picture is a row of pixels of row `r` of the square
pub record IsRowOf (f : Frame) (y r : ℕ) : Type 0 where
  pub least : f.top ≤ y
  pub most : y < f.top + f.side * f.scale
  pub is : (y - f.top) / f.scale ≡ r

pub top-row : (p : Pixels) (f : Frame) → IsFrameIn p f → IsRowOf f f.top 0
top-row p f h =
    let s = size-least f.side f.scale h.least h.scaled in
    record { least = omega arith; most = omega arith; is = ap (λ z. z / f.scale) (let e : f.top - f.top ≡ 0 * f.scale + 0 = omega arith in e) ∙ div-mul-add 0 f.scale 0 h.scaled }

pub bottom-row : (p : Pixels) (f : Frame) → IsFrameIn p f → IsRowOf f (f.top + f.side * f.scale - 1) (f.side - 1)
bottom-row p f h =
    let s = size-least f.side f.scale h.least h.scaled in
    record { least = omega arith; most = omega arith; is = ap (λ z. z / f.scale) (let e : f.top + f.side * f.scale - 1 - f.top ≡ f.side * f.scale - 1 = omega arith in e) ∙ last-module f.side f.scale h.least h.scaled }

-- the list is row `y` of the picture
pub record IsLine (p : Pixels) (line : List ℕ) (y : ℕ) : Type 0 where
  pub len : length line ≡ p.width
  pub shows : (x : ℕ) → x < p.width → get_or line x 0 ≡ grey p y x

-- a pixel of a row
line-pixel : (p : Pixels) (f : Frame) (dark : ℕ → ℕ → Bool) (line : List ℕ) (y r c x : ℕ) (b : Bool) → IsDrawing p f dark → IsRowOf f y r → IsLine p line y → f.left ≤ x → x < f.left + f.side * f.scale
    → (x - f.left) / f.scale ≡ c → dark r c ≡ b → get_or line x 0 ≡ cond b f.dark f.light
line-pixel p f dark line y r c x b h row is lo hi e d =
    let across = h.frame.across in
    let l : x < p.width = omega arith in
    is.shows x l ∙ shown-inside p f dark y x h row.least row.most lo hi ∙ ap (λ z. cond (dark z ((x - f.left) / f.scale)) f.dark f.light) row.is ∙ ap (λ z. cond (dark r z) f.dark f.light) e ∙ ap (λ z. cond z f.dark f.light) d

pub begins-with : (p : Pixels) (f : Frame) (dark : ℕ → ℕ → Bool) (line : List ℕ) (y r : ℕ) → IsDrawing p f dark → IsRowOf f y r → IsLine p line y → Begins dark r → BeginsWith line f.left (7 * f.scale) f.dark
begins-with p f dark line y r h row is b =
    let s = size-least f.side f.scale h.frame.least h.frame.scaled in
    let some = h.frame.scaled in
    let across = h.frame.across in
    let len = is.len in
    let seven : (f.left + 7 * f.scale - f.left) / f.scale ≡ 7 = ap (λ z. z / f.scale) (let e : f.left + 7 * f.scale - f.left ≡ 7 * f.scale + 0 = omega arith in e) ∙ div-mul-add 7 f.scale 0 some in
    let light : get_or line (f.left + 7 * f.scale) 0 ≡ f.light = line-pixel p f dark line y r 7 (f.left + 7 * f.scale) false h row is (omega arith) (omega arith) seven b.next in
    record {
      run = record {
        each = λ x lo hi. let c : (x - f.left) / f.scale < 7 = div_below (x - f.left) f.scale 7 (omega arith) (omega arith) in
            line-pixel p f dark line y r ((x - f.left) / f.scale) x true h row is lo (omega arith) refl (b.run ((x - f.left) / f.scale) c);
      };
      inside = omega arith;
      other = λ e. h.frame.differ (sym e ∙ light);
    }

pub ends-with : (p : Pixels) (f : Frame) (dark : ℕ → ℕ → Bool) (line : List ℕ) (y r : ℕ) → IsDrawing p f dark → IsRowOf f y r → IsLine p line y → Ends f.side dark r → EndsWith line (f.left + f.side * f.scale) (7 * f.scale) f.dark
ends-with p f dark line y r h row is b =
    let s = size-least f.side f.scale h.frame.least h.frame.scaled in
    let some = h.frame.scaled in
    let least = h.frame.least in
    let across = h.frame.across in
    let cut = size-cut f.side (f.side - 7) f.scale (omega arith) in
    let cut8 : (f.side - 7) * f.scale ≡ (f.side - 8) * f.scale + f.scale = ap (λ z. z * f.scale) (let e : f.side - 7 ≡ f.side - 8 + 1 = omega arith in e) ∙ omega arith in
    let lt : f.scale - 1 < f.scale = omega arith in
    let eight : (f.left + f.side * f.scale - 7 * f.scale - 1 - f.left) / f.scale ≡ f.side - 8 =
    ap (λ z. z / f.scale) (let e : f.left + f.side * f.scale - 7 * f.scale - 1 - f.left ≡ (f.side - 8) * f.scale + (f.scale - 1) = omega arith in e) ∙ div-mul-add (f.side - 8) f.scale (f.scale - 1) lt in
    let light : get_or line (f.left + f.side * f.scale - 7 * f.scale - 1) 0 ≡ f.light = line-pixel p f dark line y r (f.side - 8) (f.left + f.side * f.scale - 7 * f.scale - 1) false h row is (omega arith) (omega arith) eight b.next in
    record {
      run = record {
        each = λ x lo hi.
            let c : f.side - 7 ≤ (x - f.left) / f.scale = le-div (f.side - 7) (x - f.left) f.scale (omega arith) (omega arith) in
            let d : (x - f.left) / f.scale < f.side = div_below (x - f.left) f.scale f.side (omega arith) (omega arith) in
            line-pixel p f dark line y r ((x - f.left) / f.scale) x true h row is (omega arith) hi refl (b.run ((x - f.left) / f.scale) c d);
      };
      inside = omega arith;
      other = λ e. h.frame.differ (sym e ∙ light);
    }

-- three ends of the first and the last row begin with a finder pattern
pub three-ends : (p : Pixels) (f : Frame) (dark : ℕ → ℕ → Bool) (t : Turn) (first last : List ℕ) → IsDrawing p f dark → IsTurn f.side dark t → IsLine p first f.top → IsLine p last (f.top + f.side * f.scale - 1)
    → HasThreeEnds first last f.left (f.left + f.side * f.scale) (7 * f.scale) f.dark
three-ends p f dark Upright first last h is a b =
    inl (
      ends-with p f dark first f.top 0 h (top-row p f h.frame) a (top-ends f.side dark h.frame.least is.1),
      begins-with p f dark last (f.top + f.side * f.scale - 1) (f.side - 1) h (bottom-row p f h.frame) b (bottom-begins f.side dark h.frame.least is.2),
    )
three-ends p f dark Quarter first last h is a b =
    inr (inl (
      begins-with p f dark first f.top 0 h (top-row p f h.frame) a (top-begins f.side dark h.frame.least is.0),
      ends-with p f dark first f.top 0 h (top-row p f h.frame) a (top-ends f.side dark h.frame.least is.1),
    ))
three-ends p f dark Half first last h is a b =
    inl (
      ends-with p f dark first f.top 0 h (top-row p f h.frame) a (top-ends f.side dark h.frame.least is.1),
      begins-with p f dark last (f.top + f.side * f.scale - 1) (f.side - 1) h (bottom-row p f h.frame) b (bottom-begins f.side dark h.frame.least is.2),
    )
three-ends p f dark ThreeQuarters first last h is a b =
    inr (inr (
      begins-with p f dark first f.top 0 h (top-row p f h.frame) a (top-begins f.side dark h.frame.least is.0),
      begins-with p f dark last (f.top + f.side * f.scale - 1) (f.side - 1) h (bottom-row p f h.frame) b (bottom-begins f.side dark h.frame.least is.2),
    ))

-- ---- dark pixels at the four edges of the square

-- a pixel in the grey value of dark modules
pub record DarkAt (p : Pixels) (f : Frame) (y x : ℕ) : Type 0 where
  pub row_in : y < p.height
  pub col_in : x < p.width
  pub is : grey p y x ≡ f.dark

dark-begin : (p : Pixels) (f : Frame) (dark : ℕ → ℕ → Bool) (y r : ℕ) → IsDrawing p f dark → IsRowOf f y r → Begins dark r → DarkAt p f y f.left
dark-begin p f dark y r h row b =
    let s = size-least f.side f.scale h.frame.least h.frame.scaled in
    let down = h.frame.down in
    let across = h.frame.across in
    let most = row.most in
    let zero : (f.left - f.left) / f.scale ≡ 0 = ap (λ z. z / f.scale) (let e : f.left - f.left ≡ 0 * f.scale + 0 = omega arith in e) ∙ div-mul-add 0 f.scale 0 h.frame.scaled in
    record {
      row_in = omega arith;
      col_in = omega arith;
      is = shown-inside p f dark y f.left h row.least row.most (omega arith) (omega arith)
          ∙ ap (λ z. cond (dark z ((f.left - f.left) / f.scale)) f.dark f.light) row.is ∙ ap (λ z. cond (dark r z) f.dark f.light) zero ∙ ap (λ z. cond z f.dark f.light) (b.run 0 (omega arith));
    }

dark-end : (p : Pixels) (f : Frame) (dark : ℕ → ℕ → Bool) (y r : ℕ) → IsDrawing p f dark → IsRowOf f y r → Ends f.side dark r → DarkAt p f y (f.left + f.side * f.scale - 1)
dark-end p f dark y r h row b =
    let s = size-least f.side f.scale h.frame.least h.frame.scaled in
    let least = h.frame.least in
    let down = h.frame.down in
    let across = h.frame.across in
    let most = row.most in
    let end : (f.left + f.side * f.scale - 1 - f.left) / f.scale ≡ f.side - 1 = ap (λ z. z / f.scale) (let e : f.left + f.side * f.scale - 1 - f.left ≡ f.side * f.scale - 1 = omega arith in e) ∙ last-module f.side f.scale h.frame.least h.frame.scaled in
    record {
      row_in = omega arith;
      col_in = omega arith;
      is = shown-inside p f dark y (f.left + f.side * f.scale - 1) h row.least row.most (omega arith) (omega arith)
          ∙ ap (λ z. cond (dark z ((f.left + f.side * f.scale - 1 - f.left) / f.scale)) f.dark f.light) row.is ∙ ap (λ z. cond (dark r z) f.dark f.light) end ∙ ap (λ z. cond z f.dark f.light) (b.run (f.side - 1) (omega arith) (omega arith));
    }

-- the rows and columns of three corners
pub record Corners (p : Pixels) (f : Frame) : Type 0 where
  pub top : (x : ℕ) × DarkAt p f f.top x
  pub bottom : (x : ℕ) × DarkAt p f (f.top + f.side * f.scale - 1) x
  pub rows : (DarkAt p f f.top f.left × DarkAt p f f.top (f.left + f.side * f.scale - 1)) ⊎ (DarkAt p f (f.top + f.side * f.scale - 1) f.left × DarkAt p f (f.top + f.side * f.scale - 1) (f.left + f.side * f.scale - 1))
  pub cols : (DarkAt p f f.top f.left × DarkAt p f (f.top + f.side * f.scale - 1) f.left) ⊎ (DarkAt p f f.top (f.left + f.side * f.scale - 1) × DarkAt p f (f.top + f.side * f.scale - 1) (f.left + f.side * f.scale - 1))
  pub left : DarkAt p f f.top f.left ⊎ DarkAt p f (f.top + f.side * f.scale - 1) f.left
  pub right : DarkAt p f f.top (f.left + f.side * f.scale - 1) ⊎ DarkAt p f (f.top + f.side * f.scale - 1) (f.left + f.side * f.scale - 1)

pub corners : (p : Pixels) (f : Frame) (dark : ℕ → ℕ → Bool) (t : Turn) → IsDrawing p f dark → IsTurn f.side dark t → Corners p f
corners p f dark Upright h is =
    let a = dark-begin p f dark f.top 0 h (top-row p f h.frame) (top-begins f.side dark h.frame.least is.0) in
    let b = dark-end p f dark f.top 0 h (top-row p f h.frame) (top-ends f.side dark h.frame.least is.1) in
    let c = dark-begin p f dark (f.top + f.side * f.scale - 1) (f.side - 1) h (bottom-row p f h.frame) (bottom-begins f.side dark h.frame.least is.2) in
    record { top = (f.left, a); bottom = (f.left, c); rows = inl (a, b); cols = inl (a, c); left = inl a; right = inl b }
corners p f dark Quarter h is =
    let a = dark-begin p f dark f.top 0 h (top-row p f h.frame) (top-begins f.side dark h.frame.least is.0) in
    let b = dark-end p f dark f.top 0 h (top-row p f h.frame) (top-ends f.side dark h.frame.least is.1) in
    let d = dark-end p f dark (f.top + f.side * f.scale - 1) (f.side - 1) h (bottom-row p f h.frame) (bottom-ends f.side dark h.frame.least is.3) in
    record { top = (f.left, a); bottom = (f.left + f.side * f.scale - 1, d); rows = inl (a, b); cols = inr (b, d); left = inl a; right = inl b }
corners p f dark Half h is =
    let b = dark-end p f dark f.top 0 h (top-row p f h.frame) (top-ends f.side dark h.frame.least is.1) in
    let c = dark-begin p f dark (f.top + f.side * f.scale - 1) (f.side - 1) h (bottom-row p f h.frame) (bottom-begins f.side dark h.frame.least is.2) in
    let d = dark-end p f dark (f.top + f.side * f.scale - 1) (f.side - 1) h (bottom-row p f h.frame) (bottom-ends f.side dark h.frame.least is.3) in
    record { top = (f.left + f.side * f.scale - 1, b); bottom = (f.left, c); rows = inr (c, d); cols = inr (b, d); left = inr c; right = inl b }
corners p f dark ThreeQuarters h is =
    let a = dark-begin p f dark f.top 0 h (top-row p f h.frame) (top-begins f.side dark h.frame.least is.0) in
    let c = dark-begin p f dark (f.top + f.side * f.scale - 1) (f.side - 1) h (bottom-row p f h.frame) (bottom-begins f.side dark h.frame.least is.2) in
    let d = dark-end p f dark (f.top + f.side * f.scale - 1) (f.side - 1) h (bottom-row p f h.frame) (bottom-ends f.side dark h.frame.least is.3) in
    record { top = (f.left, a); bottom = (f.left, c); rows = inr (c, d); cols = inl (a, c); left = inl a; right = inr d }

-- ---- the edges that are found are those of the square

-- a pixel outside of the square
pub margin : (p : Pixels) (f : Frame) (dark : ℕ → ℕ → Bool) (y x : ℕ) → IsDrawing p f dark → y < p.height → x < p.width → is_inside f y x ≡ false → grey p y x ≡ f.light
margin p f dark y x h l m e = h.pixels y x l m ∙ grey-outside f dark y x e

pub top-found : (p : Pixels) (f : Frame) (dark : ℕ → ℕ → Bool) (t : Turn) (top light : ℕ) → IsDrawing p f dark → IsTurn f.side dark t → f.light ≡ light → top ≤ p.height
    → ((y x : ℕ) → y < top → x < p.width → grey p y x ≡ light) → (top < p.height → (x : ℕ) × (x < p.width) × (grey p top x ≢ light)) → top ≡ f.top
top-found p f dark t top light h is e most all at =
    let k = (corners p f dark t h is).top in
    let row = k.1.row_in in
    elim (cases_order top f.top) [
      | inl s ↦ s
      | inr o ↦ elim o [
        | inl lt ↦ let a = at (omega arith) in absurd (a.2 (margin p f dark top a.0 h (omega arith) a.1 (above f top a.0 lt) ∙ e))
        | inr gt ↦ absurd (h.frame.differ (sym k.1.is ∙ all f.top k.0 gt k.1.col_in ∙ sym e))
      ]
    ]

pub bottom-found : (p : Pixels) (f : Frame) (dark : ℕ → ℕ → Bool) (t : Turn) (bottom light : ℕ) → IsDrawing p f dark → IsTurn f.side dark t → f.light ≡ light → bottom ≤ p.height
    → ((y x : ℕ) → bottom ≤ y → y < p.height → x < p.width → grey p y x ≡ light) → (0 < bottom → (x : ℕ) × (x < p.width) × (grey p (bottom - 1) x ≢ light)) → bottom ≡ f.top + f.side * f.scale
bottom-found p f dark t bottom light h is e most all at =
    let s = size-least f.side f.scale h.frame.least h.frame.scaled in
    let k = (corners p f dark t h is).bottom in
    let row = k.1.row_in in
    elim (cases_order bottom (f.top + f.side * f.scale)) [
      | inl s ↦ s
      | inr o ↦ elim o [
        | inl lt ↦ absurd (h.frame.differ (sym k.1.is ∙ all (f.top + f.side * f.scale - 1) k.0 (omega arith) row k.1.col_in ∙ sym e))
        | inr gt ↦ let a = at (omega arith) in absurd (a.2 (margin p f dark (bottom - 1) a.0 h (omega arith) a.1 (below f (bottom - 1) a.0 (omega arith)) ∙ e))
      ]
    ]

first-least : (p : Pixels) (f : Frame) (dark : ℕ → ℕ → Bool) (line : List ℕ) (y i : ℕ) → IsDrawing p f dark → IsLine p line y → y < p.height → IsFirstOther line f.light i → f.left ≤ i
first-least p f dark line y i h is l o =
    let s = size-least f.side f.scale h.frame.least h.frame.scaled in
    let across = h.frame.across in
    let len = is.len in
    elim (cases_lt i f.left) [ inl lt ↦ absurd (o.at (omega arith) (is.shows i (omega arith) ∙ margin p f dark y i h l (omega arith) (before f y i lt))) | inr ge ↦ ge ]

first-most : (p : Pixels) (f : Frame) (dark : ℕ → ℕ → Bool) (line : List ℕ) (y i : ℕ) → IsDrawing p f dark → IsLine p line y → DarkAt p f y f.left → IsFirstOther line f.light i → i ≤ f.left
first-most p f dark line y i h is d o =
    elim (cases_lt f.left i) [ inl lt ↦ absurd (h.frame.differ (sym d.is ∙ sym (is.shows f.left d.col_in) ∙ o.before.each f.left (omega arith) lt)) | inr ge ↦ ge ]

end-most : (p : Pixels) (f : Frame) (dark : ℕ → ℕ → Bool) (line : List ℕ) (y i : ℕ) → IsDrawing p f dark → IsLine p line y → y < p.height → IsEndOfOthers line f.light i → i ≤ f.left + f.side * f.scale
end-most p f dark line y i h is l o =
    let len = is.len in
    let most = o.most in
    elim (cases_lt (f.left + f.side * f.scale) i) [ inl lt ↦ absurd (o.at (omega arith) (is.shows (i - 1) (omega arith) ∙ margin p f dark y (i - 1) h l (omega arith) (after f y (i - 1) (omega arith)))) | inr ge ↦ ge ]

end-least : (p : Pixels) (f : Frame) (dark : ℕ → ℕ → Bool) (line : List ℕ) (y i : ℕ) → IsDrawing p f dark → IsLine p line y → DarkAt p f y (f.left + f.side * f.scale - 1) → IsEndOfOthers line f.light i → f.left + f.side * f.scale ≤ i
end-least p f dark line y i h is d o =
    let len = is.len in
    let col = d.col_in in
    elim (cases_lt i (f.left + f.side * f.scale)) [ inl lt ↦ absurd (h.frame.differ (sym d.is ∙ sym (is.shows (f.left + f.side * f.scale - 1) d.col_in) ∙ o.after.each (f.left + f.side * f.scale - 1) (omega arith) (omega arith))) | inr ge ↦ ge ]

pub left-found : (p : Pixels) (f : Frame) (dark : ℕ → ℕ → Bool) (t : Turn) (first last : List ℕ) (i j : ℕ) → IsDrawing p f dark → IsTurn f.side dark t → IsLine p first f.top → IsLine p last (f.top + f.side * f.scale - 1)
    → IsFirstOther first f.light i → IsFirstOther last f.light j → min i j ≡ f.left
left-found p f dark t first last i j h is a b o q =
    let k = corners p f dark t h is in
    let top = k.top.1.row_in in
    let bottom = k.bottom.1.row_in in
    let la = first-least p f dark first f.top i h a top o in
    let lb = first-least p f dark last (f.top + f.side * f.scale - 1) j h b bottom q in
    elim k.left [ inl d ↦ let m = first-most p f dark first f.top i h a d o in omega arith | inr d ↦ let m = first-most p f dark last (f.top + f.side * f.scale - 1) j h b d q in omega arith ]

pub right-found : (p : Pixels) (f : Frame) (dark : ℕ → ℕ → Bool) (t : Turn) (first last : List ℕ) (i j : ℕ) → IsDrawing p f dark → IsTurn f.side dark t → IsLine p first f.top → IsLine p last (f.top + f.side * f.scale - 1)
    → IsEndOfOthers first f.light i → IsEndOfOthers last f.light j → max i j ≡ f.left + f.side * f.scale
right-found p f dark t first last i j h is a b o q =
    let k = corners p f dark t h is in
    let top = k.top.1.row_in in
    let bottom = k.bottom.1.row_in in
    let la = end-most p f dark first f.top i h a top o in
    let lb = end-most p f dark last (f.top + f.side * f.scale - 1) j h b bottom q in
    elim k.right [ inl d ↦ let m = end-least p f dark first f.top i h a d o in omega arith | inr d ↦ let m = end-least p f dark last (f.top + f.side * f.scale - 1) j h b d q in omega arith ]

-- ---- the width of a finder pattern

pub begins-found : (line : List ℕ) (left right w dark i : ℕ) → left + w < right → right ≤ length line → BeginsWith line left w dark → IsFirstOther (take (right - left) (drop left line)) dark i → i ≡ w
begins-found line left right w dark i short room b o =
    let len = piece-length line left right room in
    elim (cases_order i w) [
      | inl e ↦ e
      | inr other ↦ elim other [
        | inl lt ↦ absurd (o.at (omega arith) (piece line left right i (omega arith) ∙ b.run.each (left + i) (omega arith) (omega arith)))
        | inr gt ↦ absurd (b.other (sym (piece line left right w (omega arith)) ∙ o.before.each w (omega arith) gt))
      ]
    ]

pub ends-found : (line : List ℕ) (right w dark i : ℕ) → right ≤ length line → EndsWith line right w dark → IsEndOfOthers (take right line) dark i → right - i ≡ w
ends-found line right w dark i room b o =
    let in_line = b.inside in
    let len = length-take-le right line room in
    let most = o.most in
    elim (cases_order i (right - w)) [
      | inl e ↦ omega arith
      | inr other ↦ elim other [
        | inl lt ↦ let l : right - w - 1 < right = omega arith in absurd (b.other (sym (get_or-take right line (right - w - 1) 0 l) ∙ o.after.each (right - w - 1) (omega arith) (omega arith)))
        | inr gt ↦ let l : i - 1 < right = omega arith in absurd (o.at (omega arith) (get_or-take right line (i - 1) 0 l ∙ b.run.each (i - 1) (omega arith) (omega arith)))
      ]
    ]

-- one of three ends is found
pub width-found : (first last : List ℕ) (left right w dark ur ll ul : ℕ) → left + w < right → right ≤ length first → right ≤ length last → HasThreeEnds first last left right w dark
    → IsEndOfOthers (take right first) dark ur → IsFirstOther (take (right - left) (drop left last)) dark ll
    → (right - ur ≡ ll → right - ur ≡ w) × ((right - ur ≡ ll → ⊥) → IsFirstOther (take (right - left) (drop left first)) dark ul → ul ≡ w)
width-found first last left right w dark ur ll ul short room below_room (inl h) a b =
    let e = ends-found first right w dark ur room h.0 a in
    let f = begins-found last left right w dark ll short below_room h.1 b in
    (λ same. e, λ no c. absurd (no (e ∙ sym f)))
width-found first last left right w dark ur ll ul short room below_room (inr (inl h)) a b =
    (λ same. ends-found first right w dark ur room h.1 a, λ no c. begins-found first left right w dark ul short room h.0 c)
width-found first last left right w dark ur ll ul short room below_room (inr (inr h)) a b =
    (λ same. same ∙ begins-found last left right w dark ll short below_room h.1 b, λ no c. begins-found first left right w dark ul short room h.0 c)

-- ---- the side and the scale

pub scale-found : (width scale : ℕ) → width ≡ 7 * scale → (width / 7 ≡ scale) × (width % 7 ≡ 0)
scale-found width scale e =
    let seven : 0 < 7 = omega arith in
    let f : width ≡ scale * 7 + 0 = omega arith in
    (ap (λ z. z / 7) f ∙ div-mul-add scale 7 0 seven, ap (λ z. z % 7) f ∙ mod-mul-add scale 7 0 seven)

pub side-found : (size width side scale : ℕ) → 1 ≤ scale → size ≡ side * scale → width ≡ 7 * scale → (size % (width / 7) ≡ 0) × (size / (width / 7) ≡ side)
side-found size width side scale some e f =
    let g : size ≡ side * scale + 0 = omega arith in
    let s = (scale-found width scale f).0 in
    (ap (λ z. size % z) s ∙ ap (λ z. z % scale) g ∙ mod-mul-add side scale 0 some, ap (λ z. size / z) s ∙ ap (λ z. z / scale) g ∙ div-mul-add side scale 0 some)

-- ---- the whole frame

-- the left edge, the right edge and the width of a finder pattern, as they are computed
pub record Edges (p : Pixels) (f : Frame) (first last : List ℕ) (left right dark : ℕ) : Type 0 where
  pub left_is : left ≡ f.left
  pub right_is : right ≡ f.left + f.side * f.scale
  pub short : left + 7 * f.scale < right
  pub three : HasThreeEnds first last left right (7 * f.scale) dark

pub edges-found : (p : Pixels) (f : Frame) (colours : ℕ → ℕ → Bool) (t : Turn) (first last : List ℕ) (top bottom dark light i j a b left right : ℕ) → IsDrawing p f colours → IsTurn f.side colours t → f.dark ≡ dark → f.light ≡ light
    → top ≡ f.top → bottom ≡ f.top + f.side * f.scale → IsLine p first top → IsLine p last (bottom - 1)
    → IsFirstOther first light i → IsFirstOther last light j → IsEndOfOthers first light a → IsEndOfOthers last light b → left ≡ min i j → right ≡ max a b → Edges p f first last left right dark
edges-found p f colours t first last top bottom dark light i j a b left right h is dark_is light_is top_is bottom_is m n o q r s le re =
    let first_line : IsLine p first f.top = subst (λ z. IsLine p first z) top_is m in
    let last_line : IsLine p last (f.top + f.side * f.scale - 1) = subst (λ z. IsLine p last (z - 1)) bottom_is n in
    let o2 : IsFirstOther first f.light i = subst (λ z. IsFirstOther first z i) (sym light_is) o in
    let q2 : IsFirstOther last f.light j = subst (λ z. IsFirstOther last z j) (sym light_is) q in
    let r2 : IsEndOfOthers first f.light a = subst (λ z. IsEndOfOthers first z a) (sym light_is) r in
    let s2 : IsEndOfOthers last f.light b = subst (λ z. IsEndOfOthers last z b) (sym light_is) s in
    let left_is : left ≡ f.left = le ∙ left-found p f colours t first last i j h is first_line last_line o2 q2 in
    let right_is : right ≡ f.left + f.side * f.scale = re ∙ right-found p f colours t first last a b h is first_line last_line r2 s2 in
    let least = size-least f.side f.scale h.frame.least h.frame.scaled in
    record {
      left_is = left_is;
      right_is = right_is;
      short = omega arith;
      three = subst (λ z. HasThreeEnds first last z right (7 * f.scale) dark) (sym left_is)
          (subst (λ z. HasThreeEnds first last f.left z (7 * f.scale) dark) (sym right_is)
          (subst (λ z. HasThreeEnds first last f.left (f.left + f.side * f.scale) (7 * f.scale) z) dark_is (three-ends p f colours t first last h is first_line last_line)));
    }
