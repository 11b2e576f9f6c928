use Rattle.qr_images.proofs.lemmas.pixels.{digits-in, digits_of, eight-digits, many-more, no-digits, pixels-at}
use Rattle.std.proofs.Common.{arith, ◌≡◌, ◌∙◌, ap, sym, ◌-◌, ◌+◌, ◌*◌, ◌/◌, ◌≤◌, ◌<◌, ℕ, not}
use Rattle.qr_images.specs.Steps.Pixels.{is_dark_in}
use Rattle.qr_images.proofs.pixels.next_byte.Goals as goal

pub loop-done-init : goal.loop-done-init
loop-done-init c = record {
  value = sym (no-digits _);
  within8 = omega arith;
  next = omega arith;
  left = c.requires.left;
  within = c.requires.within;
  far = omega arith;
}

pub with_bits-byte-requires-clause-small : goal.with_bits-byte-requires-clause-small
with_bits-byte-requires-clause-small c = digits-in _ c.loop-done.done c.loop-done.byte c.loop-done.invariant.within8 c.loop-done.invariant.value

pub loop-done-preserved : goal.loop-done-preserved
loop-done-preserved c =
    let inv = c.loop-done.invariant in
    let scale = c.args.scale in
    let dark = is_dark_in c.args.margin c.args.cells.now in
    let start = c.args.place.now.column * scale + (scale - c.args.place.now.left) in
    let count : c.min-count.result ≤ c.loop-done.at.left = omega (arith, c.min-count.ensures) in
    let rest : c.loop-done.done + c.min-count.result ≤ 8 = omega (arith, c.min-count.ensures, inv.within8) in
    let pixel = pixels-at dark scale start c.loop-done.done c.loop-done.at.column c.loop-done.at.left c.is_dark-black.result inv.within inv.next c.is_dark-black.ensures in
    let each : (j : ℕ) → j < c.min-count.result → not (dark ((start + (c.loop-done.done + j)) / scale)) ≡ not c.is_dark-black.result = λ j l. pixel j (omega (arith, count)) in
    record {
      value = c.with_bits-byte.ensures ∙ (rw inv.value (sym (many-more (λ j. not (dark ((start + j) / scale))) (not c.is_dark-black.result) c.loop-done.done c.min-count.result each)));
      within8 = rest;
      next = omega (arith, c.moved-at.ensures.next, inv.next);
      left = c.moved-at.ensures.left;
      within = c.moved-at.ensures.within;
      far = omega (arith, c.moved-at.ensures.far, inv.far, c.min-count.ensures, inv.left);
    }

pub overflow_cast-result : goal.overflow_cast-result
overflow_cast-result c =
    let small = digits-in _ c.loop-done.done c.loop-done.byte c.loop-done.invariant.within8 c.loop-done.invariant.value in
    omega arith

pub returns-clause-value : goal.returns-clause-value
returns-clause-value c =
    let n : c.loop-done.done ≡ 8 = omega (arith, c.loop-done.invariant.within8) in
    let scale = c.args.scale in
    let p = λ (j : ℕ). not (is_dark_in c.args.margin c.args.cells.now ((c.args.place.now.column * scale + (scale - c.args.place.now.left) + j) / scale)) in
    c.loop-done.invariant.value ∙ ap (digits_of p) n ∙ eight-digits p
