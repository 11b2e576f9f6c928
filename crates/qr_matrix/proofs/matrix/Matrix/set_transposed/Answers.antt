use Rattle.std.proofs.Common.{rules}
use Rattle.std.proofs.{Common.{◌≡◌, ◌<◌, ℕ, Bool, false, true, ◌+◌, ◌*◌, ◌/◌, ◌%◌, ◌&&◌, ◌||◌, ◌∙◌, cond, eqb, ltb, get_or, [], length, sym, ap, refl, arith}, lemmas.{Bool.Decides.nat_tests, List.{get_or_read, get_or-set_other, get_or-set_same}}, Math.ListN.length-set}
use Rattle.qr_matrix.specs.{Grid.{Grid, colour}, BitRow.{dark_in, has, has_bit}, Steps.bit_in}
use Rattle.qr_matrix.proofs.lemmas.{matrix.{GridLemmas.square-same, MatrixLemmas.{line-set, row-read}}, bit_row.PlaceLemmas.words-small}
use Rattle.qr_matrix.proofs.lemmas.matrix.TranspositionLemmas.{all-stages, mask-at, row-more, tile-read, word-read, zero-at}
use Rattle.qr_matrix.proofs.matrix.Matrix.set_transposed.Goals as goal

pub loop-line-init : goal.loop-line-init
loop-line-init c = record {
  long = refl;
  read = λ r k l m. absurd (omega arith);
  rest = λ r l. zero-at 64 r 0;
}

pub exchange-requires-clause-masks : goal.exchange-requires-clause-masks
unfolding has_bit
exchange-requires-clause-masks c = mask-at 0x00000000FFFFFFFF 32 refl

pub exchange-requires-in-loop-word-clause-masks : goal.exchange-requires-in-loop-word-clause-masks
unfolding has_bit
exchange-requires-in-loop-word-clause-masks c = mask-at 0x0000FFFF0000FFFF 16 refl

pub exchange-requires-in-loop-word-2-clause-masks : goal.exchange-requires-in-loop-word-2-clause-masks
unfolding has_bit
exchange-requires-in-loop-word-2-clause-masks c = mask-at 0x00FF00FF00FF00FF 8 refl

pub exchange-requires-in-loop-word-3-clause-masks : goal.exchange-requires-in-loop-word-3-clause-masks
unfolding has_bit
exchange-requires-in-loop-word-3-clause-masks c = mask-at 0x0F0F0F0F0F0F0F0F 4 refl

pub exchange-requires-in-loop-word-4-clause-masks : goal.exchange-requires-in-loop-word-4-clause-masks
unfolding has_bit
exchange-requires-in-loop-word-4-clause-masks c = mask-at 0x3333333333333333 2 refl

pub exchange-requires-in-loop-word-5-clause-masks : goal.exchange-requires-in-loop-word-5-clause-masks
unfolding has_bit
exchange-requires-in-loop-word-5-clause-masks c = mask-at 0x5555555555555555 1 refl

-- a bit after one row more is written: `e` says that the place is in this row, `p` and `n` that it is in the rows
-- before, and in all with this one
one-more : (e p n q x b d y : Bool) → ((e && q) || (p && q)) ≡ (n && q) → (e ≡ true → x ≡ b) → (e ≡ true → d ≡ cond (p && q) b y) → cond e (cond q x d) (cond (p && q) b y) ≡ cond (n && q) b y
one-more e p n q x b d y h i j = grind (arith, nat_tests)

-- a word of the tile has the colours of a row of the other square
word-colours : (c : goal.After-tile-1) (k : ℕ) → k < 64 → has_bit (get_or c.tile.inside.0 c.loop-band.band 0) k ≡ colour c.args.other.now (64 * c.loop-word.word + c.loop-line.line) (64 * c.loop-band.band + k)
word-colours c k l = search (rules, word-read, words-small, row-read)

pub loop-line-preserved : goal.loop-line-preserved
loop-line-preserved c = search (rules, length-set, get_or-set_same, get_or-set_other, word-colours)

pub loop-row-preserved : goal.loop-row-preserved
unfolding bit_in dark_in
loop-row-preserved c =
    let i = c.loop-row.invariant in
    let band = c.loop-band.band in
    let word = c.loop-word.word in
    let row = c.loop-row.row in
    let rows = c.loop-row.self-inside.rows.items in
    let tile = c.exchange-in-loop-word-5.new.tile in
    let at = 64 * band + row in
    let old = c.index_mut.result.now in
    let e = ap (λ (g : Grid). g.side) c.self.view_is in
    let new = c.put_word.new.self in
    let few : row < 64 = omega (arith, c.min-row-end.ensures, c.loop-row-test.true) in
    let here : at < length rows = search rules in
    let read : old ≡ get_or rows at [] = get_or_read rows at old here c.index_mut.ensures.value [] in
    record {
      same = i.same;
      long = length-set rows at new ∙ i.long;
      written = λ r k. line-set rows at at new refl here r k
          ∙ (ap (λ z. cond (eqb r at) z (dark_in rows r k)) (c.put_word.ensures k)
          ∙ (ap (λ z. cond (eqb r at) (cond (eqb (k / 64) word) (has_bit (get_or tile row 0) (k % 64)) (has old k)) z) (i.written r k)
          ∙ one-more (eqb r at) (eqb (r / 64) band && ltb r at) _ (eqb (k / 64) word) _ _ _ _ (row-more band row r (eqb (k / 64) word) few)
          (λ t. let s : r % 64 ≡ row = grind (arith, nat_tests) in ap (λ z. has_bit (get_or tile z 0) (k % 64)) (sym s))
          (λ t. let s : r ≡ at = grind (arith, nat_tests) in ap (λ w. has w k) (read ∙ ap (λ z. get_or rows z []) (sym s)) ∙ i.written r k)));
    }

-- a place that is not in the band, or not in the word, is as before
elsewhere : (r k band word : ℕ) (t x y : Bool) → (r / 64 ≡ band → k / 64 < word) → cond ((eqb (r / 64) band && t) && eqb (k / 64) word) x y ≡ y
elsewhere r k band word t x y h = grind (arith, nat_tests)

-- a place past the side, if neither the tile nor the square has a bit there
outside : (p : Bool) (k word : ℕ) (x y : Bool) → (k / 64 ≡ word → x ≡ false) → y ≡ false → cond (p && eqb (k / 64) word) x y ≡ false
outside p k word x y h e = search (arith, nat_tests)

-- a place in the tile has the bit of the tile
inside : (r k band word : ℕ) (t x y : Bool) → r / 64 ≡ band → k / 64 ≡ word → t ≡ true → cond ((eqb (r / 64) band && t) && eqb (k / 64) word) x y ≡ x
inside r k band word t x y e f g = grind (arith, nat_tests)

pub loop-word-preserved : goal.loop-word-preserved
loop-word-preserved c =
    let i = c.loop-word.invariant in
    let w = c.loop-row.invariant in
    let n = c.args.self.now.side in
    let other = c.args.other.now in
    let band = c.loop-band.band in
    let word = c.loop-word.word in
    let tile = c.exchange-in-loop-word-5.new.tile in
    let e = ap (λ (g : Grid). g.side) c.self.view_is in
    let turned = all-stages (bit_in c.loop-line.tile) _ _ _ _ _ (bit_in tile) c.exchange.ensures c.exchange-in-loop-word.ensures c.exchange-in-loop-word-2.ensures c.exchange-in-loop-word-3.ensures c.exchange-in-loop-word-4.ensures c.exchange-in-loop-word-5.ensures in
    let read = tile-read word band c.loop-line.line other.side c.loop-line.tile other (omega (arith, c.requires, c.from-side.ensures, c.div_ceil-words.ensures)) (omega (arith, c.requires, c.min-line-end.ensures, c.loop-line-test.false)) c.loop-line.invariant.read c.loop-line.invariant.rest in
    record {
      same = w.same ∙ i.same;
      long = w.long ∙ i.same;
      past = search (rules, outside, nat_tests);
      done = search rules;
      here = search (arith, elsewhere, nat_tests, inside);
    }

pub returns : goal.returns
returns c = search (arith, nat_tests, square-same)
