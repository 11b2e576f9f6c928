use Rattle.qr_layout.specs.{Format.format_word_of, Role.role_of, Version.side_of, declared.level.Level.Level}
use Rattle.qr_matrix.{proofs.Facts.{square-same, colour-square, has_bit-shr}, specs.{BitRow.has_bit, Grid.{Grid, square, colour, one_of, IsSquare}}}
use Rattle.qr_symbol.{proofs.lemmas.placement.PlacementLemmas.square-is, specs.{Mask.{inverts, inverted}, Steps.{Patterns.format_or, Placement.masked_colour}}}
use Rattle.std.proofs.Common.{rules, ◌≡◌, ℕ, ◌+◌, ◌-◌, ◌/◌, ◌%◌, ◌^◌, ◌<◌, Bool, false, true, cond, eqb, ltb, ◌&&◌, ◌∙◌, ap, sym, subst, arith}
use Rattle.qr_symbol.proofs.canvas.Canvas.draw_both_masked.Goals as goal
use Rattle.qr_symbol.proofs.lemmas.patterns.FormatDrawingLemmas.{FormatDown, IsInEight, across-end, both-parts, down-start, down-step, masked_square}

abbrev side : Grid → ℕ
side g = g.side

-- the format information of each of two masks
words : (l : Level) (m n x y : ℕ) (s : Bool) → x ≡ format_word_of l m → y ≡ format_word_of l n → cond s y x ≡ format_word_of l (cond s n m)
words l m n x y false e f = e
words l m n x y true e f = f

none-set : (k : ℕ) (y z : Bool) → z ≡ cond (ltb k 0) y z
none-set k y z = search rules

pub loop-first-init : goal.loop-first-init
loop-first-init c =
    let k = c.args.self.now in
    let e : side_of k.version ≡ k.unmasked.side = search rules in record {
      so_far = λ s.
          let f = λ (r j : ℕ). inverted (colour k.region r j && inverts (cond s c.args.masks.1 c.args.masks.0) r j) (colour k.unmasked r j) in
          subst (λ n. IsSquare n (one_of c.args.pair.now s)) e (c.requires.squares s) ∙ square-same _ _ _ (λ r j l m. none-set (r % 12) (f r j) (colour (one_of c.args.pair.now s) r j));
    }

pub set_rows_masked-requires : goal.set_rows_masked-requires
set_rows_masked-requires c = search (rules, square-is, c.args.self.now, sym (ap side (c.loop-first.invariant.so_far false)))

pub loop-first-preserved : goal.loop-first-preserved
loop-first-preserved c =
    let i = c.loop-first.invariant in let first = c.loop-first.first in
    let g = c.args.self.now in let n = g.unmasked.side in
    record {
      so_far = λ s.
          let f = λ (r k : ℕ). inverted (colour g.region r k && inverts (cond s c.args.masks.1 c.args.masks.0) r k) (colour g.unmasked r k) in
          let x = λ (r k : ℕ). inverted (colour g.region r k && has_bit (cond s c.pattern-in-loop-first.result c.pattern.result) (k % 6)) (colour g.unmasked r k) in
          let old = λ (r k : ℕ). colour (one_of c.args.pair.now s) r k in
          let before = λ (r k : ℕ). cond (ltb (r % 12) first) (f r k) (old r k) in
          let new = λ (r k : ℕ). cond (eqb (r % 12) first) (x r k) (colour (one_of c.loop-first.pair s) r k) in
          c.set_rows_masked.ensures s ∙ (ap (λ m. square m new) (ap side (i.so_far false)) ∙ square-same n _ _ (search (rules, colour-square)));
    }

pub loop-bit-init : goal.loop-bit-init
loop-bit-init c =
    let k = c.args.self.now in
    let e : k.unmasked.side ≡ side_of k.version = search rules in
    let masked : (s : Bool) → one_of c.loop-first.pair s ≡ masked_square k.version (cond s c.args.masks.1 c.args.masks.0) k.region k.unmasked = λ s.
    let f = λ (r j : ℕ). inverted (colour k.region r j && inverts (cond s c.args.masks.1 c.args.masks.0) r j) (colour k.unmasked r j) in
    let drawn = λ (r j : ℕ). cond (ltb (r % 12) c.loop-first.first) (f r j) (colour (one_of c.args.pair.now s) r j) in
    c.loop-first.invariant.so_far s ∙ (ap (λ n. square n drawn) e ∙ square-same (side_of k.version) drawn f (search rules)) in
    search (rules, square-is, down-start)

pub set_columns-requires : goal.set_columns-requires
set_columns-requires c =
    let s = ap side (c.loop-bit.invariant.square false) in
    search rules

-- the bits of one of two words that are shifted down
shifted : (s : Bool) (x y n f j k : ℕ) → has_bit (cond s x y) (k + n) ≡ has_bit f j → has_bit (cond s (x / 2 ^ n) (y / 2 ^ n)) k ≡ has_bit f j
shifted false x y n f j k e = has_bit-shr y n k ∙ e
shifted true x y n f j k e = has_bit-shr x n k ∙ e

low : (s : Bool) (x y n : ℕ) → has_bit (cond s (x / 2 ^ n) (y / 2 ^ n)) 0 ≡ has_bit (cond s x y) n
low s x y n = shifted s x y n (cond s x y) n 0 (ap (has_bit (cond s x y)) (omega arith))

pub loop-bit-preserved : goal.loop-bit-preserved
loop-bit-preserved c =
    let i = c.loop-bit.invariant in let k = c.args.self.now in
    let e = λ (s : Bool). ap side (i.square s) in
    let at : IsInEight (side_of k.version) c.loop-bit.bit c.if-bit-lt8.place = search rules in record {
      square = search (rules, square-is);
      done = λ s. down-step k.version _ c.loop-bit.bit _ _ _ _ _ (omega arith) (omega arith) (omega arith) (e s) at
          (low s _ _ c.loop-bit.bit) (c.set_columns.ensures s) (i.done s);
    }

-- the squares have the side of the version
pub set_columns-requires-2 : goal.set_columns-requires-2
set_columns-requires-2 c = let s = ap side (c.loop-bit.invariant.square false) in search rules

pub set_columns-requires-3 : goal.set_columns-requires-3
set_columns-requires-3 c = let s = ap side (c.set_columns-2.ensures false) ∙ ap side (c.loop-bit.invariant.square false) in search rules

pub set_columns-requires-4 : goal.set_columns-requires-4
set_columns-requires-4 c = let s = ap side (c.set_columns-3.ensures false) ∙ (ap side (c.set_columns-2.ensures false) ∙ ap side (c.loop-bit.invariant.square false)) in
    search rules

-- a bit of one of two numbers whose bits are reversed
either : (s : Bool) (x y f h k : ℕ) → ((i : ℕ) → i < 64 → has_bit x i ≡ has_bit f (63 - i)) → ((i : ℕ) → i < 64 → has_bit y i ≡ has_bit h (63 - i)) → k < 15
    → has_bit (cond s (y / 2 ^ 49) (x / 2 ^ 49)) k ≡ has_bit (cond s h f) (14 - k)
either false x y f h k e g l = let p : 63 - (k + 49) ≡ 14 - k = omega arith in has_bit-shr x 49 k ∙ (e (k + 49) (omega arith) ∙ ap (has_bit f) p)
either true x y f h k e g l = let p : 63 - (k + 49) ≡ 14 - k = omega arith in has_bit-shr y 49 k ∙ (g (k + 49) (omega arith) ∙ ap (has_bit h) p)

pub returns : goal.returns
unfolding masked_colour
returns c = λ s.
    let k = c.args.self.now in let v = k.version in let i = c.loop-bit.invariant in
    let f = cond s c.from-2.result c.from.result in
    let a = c.reversed.result / 2 ^ 49 in let b = c.reversed-2.result / 2 ^ 49 in
    let bits = λ (j : ℕ) (l : j < 15). either s _ _ _ _ j c.reversed.ensures c.reversed-2.ensures l in
    let m = masked_square v (cond s c.args.masks.1 c.args.masks.0) k.region k.unmasked in
    let down : FormatDown v f 15 m (one_of c.loop-bit.pair s) = search rules in
    let w = words k.level c.args.masks.0 c.args.masks.1 c.from.result c.from-2.result s (c.from.ensures ∙ c.format_word.ensures) (c.from-2.ensures ∙ c.format_word-2.ensures) in
    both-parts v f m (one_of c.loop-bit.pair s) (one_of c.set_columns-4.new.self s) down
    (across-end v f (c.side-side.result - 8) _ _ _ (one_of c.loop-bit.pair s) (one_of c.set_columns-2.new.self s) (one_of c.set_columns-3.new.self s) (one_of c.set_columns-4.new.self s) (omega arith) (omega arith) (ap side (i.square s)) (omega arith)
    (record {
      first = λ j l. bits j (omega arith);
      second = λ j l. shifted s b a 6 f (8 - j) j (bits (j + 6) (omega arith) ∙ ap (has_bit f) (eight j));
      third = λ j l. shifted s b a 7 f (7 - j) j (bits (j + 7) (omega arith) ∙ ap (has_bit f) (seven j));
    })
    (c.set_columns-2.ensures s) (c.set_columns-3.ensures s) (c.set_columns-4.ensures s))
    ∙ square-same (side_of v) _ (masked_colour v (format_word_of k.level (cond s c.args.masks.1 c.args.masks.0)) (cond s c.args.masks.1 c.args.masks.0) k.region k.unmasked) (λ r j l n.
    ap (λ z. format_or z (role_of v r j) (colour m r j)) w ∙ ap (format_or _ (role_of v r j)) (colour-square (side_of v) (λ r j. inverted (colour k.region r j && inverts (cond s c.args.masks.1 c.args.masks.0) r j) (colour k.unmasked r j)) r j l n))
  where
    eight : (k : ℕ) → 14 - (k + 6) ≡ 8 - k
    eight k = omega arith

    seven : (k : ℕ) → 14 - (k + 7) ≡ 7 - k
    seven k = omega arith
