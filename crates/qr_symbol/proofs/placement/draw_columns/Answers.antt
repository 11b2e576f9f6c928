use Rattle.{qr_layout.specs.Version.side_of, qr_matrix.specs.BitRow.has}
use Rattle.qr_symbol.proofs.lemmas.placement.SpanDrawnLemmas.{both-drawn, left-drawn, light-later, outside-drawn, right-drawn, span-added}
use Rattle.{qr_symbol.proofs.lemmas.words.BitLemmas.highest-within, std.proofs.Common.{rules, ◌≡◌, ◌+◌, ◌-◌, ◌≤◌, ◌&&◌, ◌||◌, leb, ap, ◌∙◌, refl, arith}}
use Rattle.qr_symbol.proofs.placement.draw_columns.Goals as goal

pub set_bits-requires-in-Right-clause-fits : goal.set_bits-requires-in-Right-clause-fits
set_bits-requires-in-Right-clause-fits c = search (rules, highest-within)

pub set_bits-requires-in-Left-clause-fits : goal.set_bits-requires-in-Left-clause-fits
set_bits-requires-in-Left-clause-fits c = search (rules, highest-within)

pub loop-span-preserved-in-Both : goal.loop-span-preserved-in-Both
loop-span-preserved-in-Both c =
    let i = c.loop-span.invariant in let x = i.strip in let y = c.in-Some.ensures.steps in let next = c.in-Some.ensures.goes.keeps in
    let is = rw (x.side, x.strip, x.region, x.most, c.in-Both.is) at y.is in let same = rw (x.side, x.strip, x.region, x.most) at y.same in
    let end : c.next.new.self.passed ≡ c.loop-span.span-iterator.passed + c.in-Both.count = omega (arith, is.1, is.2.0) in
    let room : c.next.new.self.passed ≤ side_of c.args.version = omega (arith, next.passed, same.side) in record {
      can_next = next;
      is_finite = tt;
      strip = same;
      drawn = rw c.from.ensures (span-added _ end room i.drawn (both-drawn c.args.region.now _ c.in-Both.count c.in-Both.top _ _ (omega (arith, end, room)) is.2.2 c.requires.region (light-later c.args.region.now c.requires.light i.drawn.drawn) is.2.5 is.2.3 i.drawn.next c.bits_at-bits.ensures
          (λ j. c.set_bits.ensures j ∙ ap (λ z. has c.loop-span.columns.right j || leb c.in-Both.top j && z) (c.split-right.ensures.right (j - c.in-Both.top)))
          (λ j. c.set_bits-in-Both.ensures j ∙ ap (λ z. has c.loop-span.columns.left j || leb c.in-Both.top j && z) (c.split-right.ensures.left (j - c.in-Both.top)))));
    }

pub loop-span-preserved-in-Right : goal.loop-span-preserved-in-Right
loop-span-preserved-in-Right c =
    let i = c.loop-span.invariant in let x = i.strip in let y = c.in-Some.ensures.steps in let next = c.in-Some.ensures.goes.keeps in
    let is = rw (x.side, x.strip, x.region, x.most, c.in-Right.is) at y.is in let same = rw (x.side, x.strip, x.region, x.most) at y.same in
    let end : c.next.new.self.passed ≡ c.loop-span.span-iterator.passed + 1 = omega (arith, is.1, is.2.0) in
    let room : c.next.new.self.passed ≤ side_of c.args.version = omega (arith, next.passed, same.side) in record {
      can_next = next;
      is_finite = tt;
      strip = same;
      drawn = span-added _ end room i.drawn (right-drawn c.args.region.now _ c.in-Right.row _ _ (omega (arith, end, room)) c.requires.region (light-later c.args.region.now c.requires.light i.drawn.drawn) (omega (arith, c.bits_at-bit.type_inv)) is.2.1 i.drawn.next c.bits_at-bit.ensures is.2.2 is.2.3 c.set_bits-in-Right.ensures (λ j. refl));
    }

pub loop-span-preserved-in-Left : goal.loop-span-preserved-in-Left
loop-span-preserved-in-Left c =
    let i = c.loop-span.invariant in let x = i.strip in let y = c.in-Some.ensures.steps in let next = c.in-Some.ensures.goes.keeps in
    let is = rw (x.side, x.strip, x.region, x.most, c.in-Left.is) at y.is in let same = rw (x.side, x.strip, x.region, x.most) at y.same in
    let end : c.next.new.self.passed ≡ c.loop-span.span-iterator.passed + 1 = omega (arith, is.1, is.2.0) in
    let room : c.next.new.self.passed ≤ side_of c.args.version = omega (arith, next.passed, same.side) in record {
      can_next = next;
      is_finite = tt;
      strip = same;
      drawn = span-added _ end room i.drawn (left-drawn c.args.region.now _ c.in-Left.row _ _ (omega (arith, end, room)) c.requires.region (light-later c.args.region.now c.requires.light i.drawn.drawn) (omega (arith, c.bits_at-bit-in-Left.type_inv)) is.2.1 i.drawn.next c.bits_at-bit-in-Left.ensures is.2.2 is.2.3 (λ j. refl) c.set_bits-in-Left.ensures);
    }

pub loop-span-preserved : goal.loop-span-preserved
loop-span-preserved c =
    let i = c.loop-span.invariant in let x = i.strip in let y = c.in-Some.ensures.steps in let next = c.in-Some.ensures.goes.keeps in
    let is = rw (x.side, x.strip, x.region, x.most, c.in-Outside.is) at y.is in let same = rw (x.side, x.strip, x.region, x.most) at y.same in
    let room : c.next.new.self.passed ≤ side_of c.args.version = omega (arith, next.passed, same.side) in record {
      can_next = next;
      is_finite = tt;
      strip = same;
      drawn = span-added _ is.1 room i.drawn (outside-drawn c.args.region.now _ is.0 _ (omega (arith, is.1, room)) c.requires.region is.2.1 i.drawn.next);
    }
