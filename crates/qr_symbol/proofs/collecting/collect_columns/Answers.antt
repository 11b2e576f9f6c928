use Rattle.{std.proofs.Common.{rules, ◌≡◌, ◌+◌, ◌≤◌, refl, subst, arith}, qr_layout.specs.Version.side_of}
use Rattle.qr_symbol.specs.Steps.{Collecting.bits_in_rows, Words.Appends}
use Rattle.qr_symbol.proofs.lemmas.collecting.{left-read, outside-read, right-read, rows-read}
use Rattle.qr_symbol.proofs.collecting.collect_columns.Goals as goal

pub loop-span-preserved-in-Both : goal.loop-span-preserved-in-Both
loop-span-preserved-in-Both c =
    let i = c.loop-span.invariant in let z = i.strip in let step = c.in-Some.ensures.steps in let next = c.in-Some.ensures.goes.keeps in
    let is = rw (z.side, z.strip, z.region, z.most, c.in-Both.is) at step.is in let same = rw (z.side, z.strip, z.region, z.most) at step.same in
    let s = side_of c.args.version in let x = c.args.strip in let r = c.args.region.now in let y = c.args.columns.now in let k = c.loop-span.span-iterator.passed in
    let end : c.next.new.self.passed ≡ k + c.in-Both.count = omega (arith, is.1, is.2.0) in
    let room : c.next.new.self.passed ≤ side_of c.args.version = omega (arith, next.passed, same.side) in record {
      can_next = next;
      is_finite = tt;
      strip = same;
      bits = rows-read s x r y 0 k c.in-Both.count k _ _ _ _ (omega arith) end i.bits (c.collect_rows.ensures s x k r refl (omega (arith, end, room)) is.2.3 is.2.5);
    }

pub loop-span-preserved-in-Right : goal.loop-span-preserved-in-Right
loop-span-preserved-in-Right c =
    let i = c.loop-span.invariant in let z = i.strip in let step = c.in-Some.ensures.steps in let next = c.in-Some.ensures.goes.keeps in
    let is = rw (z.side, z.strip, z.region, z.most, c.in-Right.is) at step.is in let same = rw (z.side, z.strip, z.region, z.most) at step.same in
    let s = side_of c.args.version in let x = c.args.strip in let r = c.args.region.now in let y = c.args.columns.now in let k = c.loop-span.span-iterator.passed in let end : c.next.new.self.passed ≡ k + 1 = omega (arith, is.1, is.2.0) in record {
      can_next = next;
      is_finite = tt;
      strip = same;
      bits = rows-read s x r y 0 k 1 k _ _ _ _ (omega arith) end i.bits (right-read s x r y k c.in-Right.row _ _ _ is.2.1 is.2.2 is.2.3 c.at.ensures c.push_bit.ensures);
    }

pub loop-span-preserved-in-Left : goal.loop-span-preserved-in-Left
loop-span-preserved-in-Left c =
    let i = c.loop-span.invariant in let z = i.strip in let step = c.in-Some.ensures.steps in let next = c.in-Some.ensures.goes.keeps in
    let is = rw (z.side, z.strip, z.region, z.most, c.in-Left.is) at step.is in let same = rw (z.side, z.strip, z.region, z.most) at step.same in
    let s = side_of c.args.version in let x = c.args.strip in let r = c.args.region.now in let y = c.args.columns.now in let k = c.loop-span.span-iterator.passed in let end : c.next.new.self.passed ≡ k + 1 = omega (arith, is.1, is.2.0) in record {
      can_next = next;
      is_finite = tt;
      strip = same;
      bits = rows-read s x r y 0 k 1 k _ _ _ _ (omega arith) end i.bits (left-read s x r y k c.in-Left.row _ _ _ is.2.1 is.2.2 is.2.3 c.at-in-Left.ensures c.push_bit-in-Left.ensures);
    }

pub loop-span-preserved : goal.loop-span-preserved
loop-span-preserved c =
    let i = c.loop-span.invariant in let z = i.strip in let step = c.in-Some.ensures.steps in let next = c.in-Some.ensures.goes.keeps in
    let is = rw (z.side, z.strip, z.region, z.most, c.in-Outside.is) at step.is in let same = rw (z.side, z.strip, z.region, z.most) at step.same in
    let s = side_of c.args.version in let x = c.args.strip in let r = c.args.region.now in let y = c.args.columns.now in let k = c.loop-span.span-iterator.passed in record {
      can_next = next;
      is_finite = tt;
      strip = same;
      bits = rows-read s x r y 0 k is.0 k _ _ _ _ (omega arith) is.1 i.bits (outside-read s x r y k is.0 _ is.2.1);
    }

pub returns : goal.returns
returns c =
    let s = side_of c.args.version in
    let whole : c.loop-span.span-iterator.passed ≡ s = search rules in
    subst (λ n. Appends (bits_in_rows s c.args.strip c.args.region.now c.args.columns.now 0 n) c.args.bits.now c.loop-span.bits) whole c.loop-span.invariant.bits
