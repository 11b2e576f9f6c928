-- The comparison of every pixel with the drawing.
use Rattle.std.proofs.Common.{◌≡◌, ◌≢◌, ◌⊎◌, ℕ, ◌+◌, ◌-◌, ◌*◌, ◌/◌, ◌%◌, ◌<◌, ◌≤◌, Bool, cond, eqb, List, length, get_or, sym, ap, ◌∙◌, arith, inl, inr}
use Rattle.std.proofs.lemmas.{Bool.{cases_lt}, Bool.Decides.{nat_tests}, Nat.{div-add-mod', div-mul-add, mod_below}, Grind.{same_number_lists}}
use Rattle.std.specs.Bool.{Decides}
use Rattle.qr_pictures.specs.Pixels.{IsFrameIn, Pixels, drawn_grey, grey}
use Rattle.qr_pictures.specs.Steps.{AreAll, IsLineDrawn, IsModule, IsRowDrawn, sampled}
use Rattle.qr_pictures.specs.declared.frame.Frame.{Frame}
use Rattle.qr_pictures.proofs.lemmas.picture.{above, after, before, below, grey-inside, grey-outside, inside, module-at, module-in}

-- one of the two grey values
shade : (v d l : ℕ) → (v ≡ d) ⊎ (v ≡ l) → v ≡ cond (eqb v d) d l
shade v d l h = grind (arith, nat_tests)

shade-two : (v d l : ℕ) → v ≡ cond (eqb v d) d l → (v ≡ d) ⊎ (v ≡ l)
shade-two v d l h = grind (arith, nat_tests)

-- a row of a module, from the test that all of its pixels are equal
pub module-decided : (f : Frame) (line : List ℕ) (at : ℕ) (r : Bool) → 1 ≤ f.scale → (get_or line at 0 ≡ f.dark) ⊎ (get_or line at 0 ≡ f.light)
    → Decides r (AreAll line at (at + f.scale) (get_or line at 0)) → Decides r (IsModule f line at)
module-decided f line at r some two d =
    let first : get_or line at 0 ≡ cond (eqb (get_or line at 0) f.dark) f.dark f.light = shade (get_or line at 0) f.dark f.light two in (
      λ e. record { one = λ k l. (d.0 e).each (at + k) (omega arith) (omega arith) ∙ first },
      λ m. d.1 (record { each = λ x a b. let l : x - at < f.scale = omega arith in let e : x ≡ at + (x - at) = omega arith in ap (λ n. get_or line n 0) e ∙ m.one (x - at) l ∙ sym first }),
    )

pub module-two : (f : Frame) (line : List ℕ) (at : ℕ) → 1 ≤ f.scale → IsModule f line at → (get_or line at 0 ≡ f.dark) ⊎ (get_or line at 0 ≡ f.light)
module-two f line at some m =
    let first : get_or line at 0 ≡ cond (eqb (get_or line at 0) f.dark) f.dark f.light = ap (λ n. get_or line n 0) (let e : at ≡ at + 0 = omega arith in e) ∙ m.one 0 some in
    shade-two (get_or line at 0) f.dark f.light first

-- ---- rows

-- a row of pixels above or below the square
pub margin-row : (p : Pixels) (f : Frame) (y : ℕ) (line : List ℕ) (r : Bool) → (y < f.top) ⊎ (f.top + f.side * f.scale ≤ y) → length line ≡ p.width
    → ((x : ℕ) → x < p.width → get_or line x 0 ≡ grey p y x) → Decides r (AreAll line 0 (length line) f.light) → Decides r (IsRowDrawn p f y)
margin-row p f y line r out len shows d =
    let light : (x : ℕ) → drawn_grey f (sampled p f) y x ≡ f.light = λ x. grey-outside f (sampled p f) y x (elim out [ inl a ↦ above f y x a | inr a ↦ below f y x a ]) in (
      λ e. record { pixels = λ x l. let lt : x < length line = omega arith in let lo : 0 ≤ x = omega arith in sym (shows x l) ∙ (d.0 e).each x lo lt ∙ sym (light x) },
      λ h. d.1 (record { each = λ x a b. let l : x < p.width = omega arith in shows x l ∙ h.pixels x l ∙ light x }),
    )

-- the first row of pixels of a row of modules
first-pixels : (y top scale : ℕ) → top ≤ y → (y - top) % scale ≡ 0 → top + (y - top) / scale * scale ≡ y
first-pixels y top scale l e = omega (arith, div-add-mod' (y - top) scale)

-- a pixel of such a row in the square
line-inside : (p : Pixels) (f : Frame) (y x : ℕ) → IsFrameIn p f → f.top ≤ y → y < f.top + f.side * f.scale → (y - f.top) % f.scale ≡ 0 → f.left ≤ x → x < f.left + f.side * f.scale
    → drawn_grey f (sampled p f) y x ≡ cond (eqb (grey p y (f.left + (x - f.left) / f.scale * f.scale)) f.dark) f.dark f.light
line-inside p f y x h a b e c d =
    grey-inside f (sampled p f) y x (inside f y x a b c d)
    ∙ ap (λ n. cond (eqb (grey p n (f.left + (x - f.left) / f.scale * f.scale)) f.dark) f.dark f.light) (first-pixels y f.top f.scale a e)

module-start : (f : Frame) (width x : ℕ) → 1 ≤ f.scale → f.left + f.side * f.scale ≤ width → f.left ≤ x → x < f.left + f.side * f.scale → f.left + (x - f.left) / f.scale * f.scale < width
module-start f width x some m c d = let at = module-at (x - f.left) f.side f.scale some (omega arith) in omega arith

pub row-from-line : (p : Pixels) (f : Frame) (y : ℕ) (line : List ℕ) → IsFrameIn p f → f.top ≤ y → y < f.top + f.side * f.scale → (y - f.top) % f.scale ≡ 0 → length line ≡ p.width
    → ((x : ℕ) → x < p.width → get_or line x 0 ≡ grey p y x) → IsLineDrawn f line → IsRowDrawn p f y
row-from-line p f y line h a b e len shows drawn =
    record {
      pixels = λ x l. sym (shows x l) ∙ elim (cases_lt x f.left) [
        | inl lt ↦ drawn.before.each x (omega arith) lt ∙ sym (grey-outside f (sampled p f) y x (before f y x lt))
        | inr ge ↦ elim (cases_lt x (f.left + f.side * f.scale)) [
          | inl lt ↦
              let at = module-at (x - f.left) f.side f.scale h.scaled (omega arith) in
              let across = h.across in
              let start = module-start f p.width x h.scaled across ge lt in
              let place : x ≡ f.left + (x - f.left) / f.scale * f.scale + (x - f.left) % f.scale = omega arith in
              ap (λ n. get_or line n 0) place ∙ (drawn.modules.each ((x - f.left) / f.scale) at.0).one ((x - f.left) % f.scale) at.1
              ∙ ap (λ n. cond (eqb n f.dark) f.dark f.light) (shows (f.left + (x - f.left) / f.scale * f.scale) start) ∙ sym (line-inside p f y x h a b e ge lt)
          | inr out ↦ let lt : x < length line = omega arith in drawn.after.each x out lt ∙ sym (grey-outside f (sampled p f) y x (after f y x out))
        ]
      ];
    }

pub line-from-row : (p : Pixels) (f : Frame) (y : ℕ) (line : List ℕ) → IsFrameIn p f → f.top ≤ y → y < f.top + f.side * f.scale → (y - f.top) % f.scale ≡ 0 → length line ≡ p.width
    → ((x : ℕ) → x < p.width → get_or line x 0 ≡ grey p y x) → IsRowDrawn p f y → IsLineDrawn f line
line-from-row p f y line h a b e len shows drawn =
    let across = h.across in
    record {
      before = record { each = λ x lo lt. let l : x < p.width = omega arith in shows x l ∙ drawn.pixels x l ∙ grey-outside f (sampled p f) y x (before f y x lt) };
      after = record { each = λ x out lt. let l : x < p.width = omega arith in shows x l ∙ drawn.pixels x l ∙ grey-outside f (sampled p f) y x (after f y x out) };
      modules = record {
        each = λ c lt. record {
          one = λ k in_k.
              let fits = module-in c f.side f.scale lt in
              let l : f.left + c * f.scale + k < p.width = omega arith in
              let m : f.left + c * f.scale < p.width = omega arith in
              let some = h.scaled in
              let ge : f.left ≤ f.left + c * f.scale + k = omega arith in
              let le : f.left + c * f.scale + k < f.left + f.side * f.scale = omega arith in
              let col : (f.left + c * f.scale + k - f.left) / f.scale ≡ c = ap (λ n. n / f.scale) (let s : f.left + c * f.scale + k - f.left ≡ c * f.scale + k = omega arith in s) ∙ div-mul-add c f.scale k in_k in
              shows (f.left + c * f.scale + k) l ∙ drawn.pixels (f.left + c * f.scale + k) l ∙ line-inside p f y (f.left + c * f.scale + k) h a b e ge le
              ∙ ap (λ n. cond (eqb (grey p y (f.left + n * f.scale)) f.dark) f.dark f.light) col
              ∙ ap (λ n. cond (eqb n f.dark) f.dark f.light) (sym (shows (f.left + c * f.scale) m));
        };
      };
    }

-- the pixels of the row above are in the same row of modules
row-above : (n scale : ℕ) → 1 ≤ scale → n % scale ≢ 0 → (n - 1) / scale ≡ n / scale
row-above n scale some ne =
    let whole = div-add-mod' n scale in
    let small = mod_below n scale (omega arith) in
    let lt : n % scale - 1 < scale = omega arith in
    let e : n - 1 ≡ n / scale * scale + (n % scale - 1) = omega arith in
    ap (λ m. m / scale) e ∙ div-mul-add (n / scale) scale (n % scale - 1) lt

pub zero-mod : (n scale : ℕ) → n ≡ 0 → n % scale ≢ 0 → ⊥
zero-mod n scale e ne = grind arith

same-drawn : (f : Frame) (dark : ℕ → ℕ → Bool) (y x : ℕ) → 1 ≤ f.scale → f.top ≤ y → y < f.top + f.side * f.scale → (y - f.top) % f.scale ≢ 0 → drawn_grey f dark (y - 1) x ≡ drawn_grey f dark y x
same-drawn f dark y x some a b ne =
    let up : f.top < y = elim (cases_lt f.top y) [ inl l ↦ l | inr l ↦ absurd (zero-mod (y - f.top) f.scale (omega arith) ne) ] in
    let shift : y - 1 - f.top ≡ y - f.top - 1 = omega arith in
    let row : (y - 1 - f.top) / f.scale ≡ (y - f.top) / f.scale = ap (λ n. n / f.scale) shift ∙ row-above (y - f.top) f.scale some ne in
    elim (cases_lt x f.left) [
      | inl lt ↦ grey-outside f dark (y - 1) x (before f (y - 1) x lt) ∙ sym (grey-outside f dark y x (before f y x lt))
      | inr ge ↦ elim (cases_lt x (f.left + f.side * f.scale)) [
        | inl lt ↦
            grey-inside f dark (y - 1) x (inside f (y - 1) x (omega arith) (omega arith) ge lt)
            ∙ ap (λ n. cond (dark n ((x - f.left) / f.scale)) f.dark f.light) row ∙ sym (grey-inside f dark y x (inside f y x a b ge lt))
        | inr out ↦ grey-outside f dark (y - 1) x (after f (y - 1) x out) ∙ sym (grey-outside f dark y x (after f y x out))
      ]
    ]

-- a row that has to be the same as the row above it
pub copied-row : (p : Pixels) (f : Frame) (y : ℕ) (line up : List ℕ) (r : Bool) → IsFrameIn p f → f.top ≤ y → y < f.top + f.side * f.scale → (y - f.top) % f.scale ≢ 0
    → length line ≡ p.width → ((x : ℕ) → x < p.width → get_or line x 0 ≡ grey p y x) → length up ≡ p.width → ((x : ℕ) → x < p.width → get_or up x 0 ≡ grey p (y - 1) x)
    → IsRowDrawn p f (y - 1) → Decides r (line ≡ up) → Decides r (IsRowDrawn p f y)
copied-row p f y line up r h a b ne len shows up_len up_shows drawn d = (
  λ e. record { pixels = λ x l. sym (shows x l) ∙ ap (λ xs. get_or xs x 0) (d.0 e) ∙ up_shows x l ∙ drawn.pixels x l ∙ same-drawn f (sampled p f) y x h.scaled a b ne },
  λ now. d.1 (same_number_lists line up (len ∙ sym up_len) (λ x lt. let l : x < p.width = omega arith in
      shows x l ∙ now.pixels x l ∙ sym (same-drawn f (sampled p f) y x h.scaled a b ne) ∙ sym (drawn.pixels x l) ∙ sym (up_shows x l))),
)

-- a row of a module that does not begin with one of the two grey values
pub module-other : (f : Frame) (line : List ℕ) (at : ℕ) → 1 ≤ f.scale → get_or line at 0 ≢ f.dark → get_or line at 0 ≢ f.light → IsModule f line at → ⊥
module-other f line at some a b m = elim (module-two f line at some m) [ inl e ↦ a e | inr e ↦ b e ]

-- a row of pixels that begins a row of modules
pub line-decided : (p : Pixels) (f : Frame) (y : ℕ) (line : List ℕ) (r : Bool) → IsFrameIn p f → f.top ≤ y → y < f.top + f.side * f.scale → (y - f.top) % f.scale ≡ 0 → length line ≡ p.width
    → ((x : ℕ) → x < p.width → get_or line x 0 ≡ grey p y x) → Decides r (IsLineDrawn f line) → Decides r (IsRowDrawn p f y)
line-decided p f y line r h a b e len shows d =
    (λ t. row-from-line p f y line h a b e len shows (d.0 t), λ drawn. d.1 (line-from-row p f y line h a b e len shows drawn))

-- the other rows of pixels come after the first one
pub row-later : (y top scale : ℕ) → top ≤ y → (y - top) % scale ≢ 0 → top < y
row-later y top scale l ne = elim (cases_lt top y) [ inl lt ↦ lt | inr ge ↦ absurd (zero-mod (y - top) scale (omega arith) ne) ]
