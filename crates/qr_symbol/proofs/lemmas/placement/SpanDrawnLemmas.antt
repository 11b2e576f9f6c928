-- Spans of a strip that are drawn one after the other.
use Rattle.{qr_layout.specs.{Version.side_of, declared.strips.Strip.Strip}, qr_matrix.specs.BitRow.{has, has_bit}}
use Rattle.qr_symbol.proofs.lemmas.placement.ColumnLemmas.{number-whole, row-drawn, row-number, rows-drawn, number-none, run-drawn, row-small}
use Rattle.qr_symbol.{proofs.lemmas.words.BitLemmas.highest-set, specs.Steps.Placement.{number_at, AreDrawn, AreLight, AreLightRows, AreWhole, IsRegion}}
use Rattle.qr_symbol.specs.{Steps.{Spans.{row_of, top_row, AreOutside, AreWholeRows}, Words.{rank_in, AreNext}}, declared.spans.Columns.Columns}
use Rattle.std.proofs.Common.{◌≡◌, ℕ, ◌+◌, ◌-◌, ◌*◌, ◌/◌, ◌^◌, ◌<◌, ◌≤◌, true, false, leb, ltb, ◌&&◌, ◌||◌, List, refl, sym, ◌∙◌, ap, arith}
use Rattle.std.proofs.lemmas.Bool.Decides.{nat_tests}

-- drawing the `n` rows from row `k` on changes the columns from `old` to `new`, and the bits from `number` on are
-- drawn, to before `after`
pub record IsSpanDrawn (v : ℕ) (cw : List ℕ) (x : Strip) (first k n number after : ℕ) (old new : Columns) : Type 0 where
  pub few : after ≤ number + 2 * n
  pub next : after ≡ number_at v x first (k + n)
  pub drawn : AreDrawn v cw x first k n old new

-- the first `k` rows were drawn, which changed the columns from `old` to `new`; `number` is that of the next bit
pub record AreDrawnTo (v : ℕ) (cw : List ℕ) (x : Strip) (first k number : ℕ) (old new : Columns) : Type 0 where
  pub few : number ≤ first + 2 * k
  pub next : number ≡ number_at v x first k
  pub drawn : AreDrawn v cw x first 0 k old new

-- one span more
pub span-added : {v : ℕ} {cw : List ℕ} {x : Strip} {first k n number after : ℕ} {p old new : Columns} (end : ℕ) → end ≡ k + n → end ≤ side_of v
    → AreDrawnTo v cw x first k number p old → IsSpanDrawn v cw x first k n number after old new → AreDrawnTo v cw x first end after p new
span-added {v} {x = x} {first = first} end e room d w = search (arith, rows-drawn)

-- ---- what is known before

-- rows of which both bits of the region are set are in the region
whole-rows : (v : ℕ) (x : Strip) (k n : ℕ) (region : Columns) → k + n ≤ side_of v → IsRegion v x.right region → AreWholeRows (side_of v) x k n region → AreWhole v x k n
whole-rows v x k n region room is w j l m = search (arith, row-small)

-- they are light
light-rows : (v : ℕ) (x : Strip) (k n : ℕ) (region y : Columns) → k + n ≤ side_of v → AreLight (side_of v) x k region y → AreWholeRows (side_of v) x k n region → AreLightRows (side_of v) x k n y
light-rows v x k n region y room light w j l m = search arith

-- after the first k rows were drawn, the rows from there on are as light as before
pub light-later : {v : ℕ} {cw : List ℕ} {x : Strip} {first k : ℕ} {p q : Columns} (region : Columns) → AreLight (side_of v) x 0 region p → AreDrawn v cw x first 0 k p q → AreLight (side_of v) x k region q
light-later {v} {x = x} region l d = search (arith, nat_tests)

-- ---- the four spans

-- rows of which all modules are in the region
pub both-drawn : {v : ℕ} {cw : List ℕ} {x : Strip} {first : ℕ} {old new : Columns} (region : Columns) (k n top number bits : ℕ)
    → k + n ≤ side_of v → n ≤ 32 → IsRegion v x.right region → AreLight (side_of v) x k region old → AreWholeRows (side_of v) x k n region
    → top ≡ top_row (side_of v) x k n → number ≡ number_at v x first k → AreNext cw number bits
    → ((i : ℕ) → has new.right i ≡ (has old.right i || leb top i && (ltb (i - top) n && has_bit bits (63 - 2 * rank_in n x.upward (i - top)))))
    → ((i : ℕ) → has new.left i ≡ (has old.left i || leb top i && (ltb (i - top) n && has_bit bits (62 - 2 * rank_in n x.upward (i - top)))))
    → IsSpanDrawn v cw x first k n number (number + 2 * n) old new
both-drawn {v} {cw} {x} {first} {old} {new} region k n top number bits room few is light whole e f next right left =
    let all = whole-rows v x k n region room is whole in record {
      few = omega arith;
      next = omega (arith, number-whole v x first k n all);
      drawn = run-drawn k n bits room few all (light-rows v x k n region old room light whole) (rw (← e) right) (rw (← e) left) (rw (← f) next);
    }

-- a row of which only one module is in the region, with the bit of this module
module _ {v : ℕ} {cw : List ℕ} {x : Strip} {first : ℕ} {old new : Columns} (region : Columns) (k row number bits : ℕ) (room : k < side_of v)
    (is : IsRegion v x.right region) (light : AreLight (side_of v) x k region old) (small : bits < 2 ^ 64)
    (r : row ≡ row_of (side_of v) x k) (f : number ≡ number_at v x first k) (next : AreNext cw number bits) where
  -- the right module is drawn
  pub right-drawn : has region.right row ≡ true → has region.left row ≡ false
      → ((i : ℕ) → has new.right i ≡ (has old.right i || leb row i && has_bit (bits / 2 ^ 63) (i - row))) → ((i : ℕ) → has new.left i ≡ has old.left i)
      → IsSpanDrawn v cw x first k 1 number (number + 1) old new
  right-drawn t u set left =
      let before : has old.right row ≡ false = ap (λ z. z && has old.right row) (sym t) ∙ rw r (light k (omega arith) room).0 in
      let right = highest-set bits row (has old.right) (has new.right) small before set in
      let at = is row (omega (arith, (row-small x (side_of v) k room).0)) in
      let g : number_at v x first k ≡ number + 0 = omega arith in record {
        few = omega arith;
        next = search (arith, row-number);
        drawn = row-drawn row number 0 1 bits true false r (sym t ∙ at.0) (sym u ∙ at.1) g refl (omega arith) (omega arith) next right left;
      }

  -- the left module is drawn
  pub left-drawn : has region.right row ≡ false → has region.left row ≡ true
      → ((i : ℕ) → has new.right i ≡ has old.right i) → ((i : ℕ) → has new.left i ≡ (has old.left i || leb row i && has_bit (bits / 2 ^ 63) (i - row)))
      → IsSpanDrawn v cw x first k 1 number (number + 1) old new
  left-drawn t u right set =
      let before : has old.left row ≡ false = ap (λ z. z && has old.left row) (sym u) ∙ rw r (light k (omega arith) room).1 in
      let left = highest-set bits row (has old.left) (has new.left) small before set in
      let at = is row (omega (arith, (row-small x (side_of v) k room).0)) in
      let g : number_at v x first k ≡ number + 0 = omega arith in record {
        few = omega arith;
        next = search (arith, row-number);
        drawn = row-drawn row number 0 0 bits false true r (sym t ∙ at.0) (sym u ∙ at.1) g refl (omega arith) (omega arith) next right left;
      }

-- rows of which no module is in the region
pub outside-drawn : {v : ℕ} {cw : List ℕ} {x : Strip} {first : ℕ} {old : Columns} (region : Columns) (k n number : ℕ)
    → k + n ≤ side_of v → IsRegion v x.right region → AreOutside (side_of v) x k n region
    → number ≡ number_at v x first k → IsSpanDrawn v cw x first k n number number old old
outside-drawn {v} {cw} {x} {first} {old} region k n number room is out f = search (arith, row-small, number-none)
