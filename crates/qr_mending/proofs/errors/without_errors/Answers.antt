use Rattle.std.proofs.Common.{rules, ◌≡◌, ℕ, ◌+◌, ◌-◌, List, ◌∙◌, [], ◌∷◌, ◌++◌, ap, refl, length, drop, get_or, set, bit_xor, length-append, length-drop, arith, take}
use Rattle.std.proofs.lemmas.List.{length-take-le, take_all, drop_all, drop_more, length-set, append-nil}
use borrow.Rule.Slice.PartMut.{post_of}
use Rattle.qr_field.{specs.Polynomial.{plus}, proofs.lemmas.polynomial.ListLemmas.{length-plus}}
use Rattle.qr_mending.{specs.Steps.Errors.{AreErrors, AreLeft}, proofs.lemmas.errors.RemovalLemmas.{refill-same, sum-set, sum-last}}
use Rattle.qr_mending.proofs.errors.without_errors.Goals as goal

pub loop-k-preserved : goal.loop-k-preserved
loop-k-preserved c =
    let damaged = c.args.damaged.now in
    let k = c.loop-k.k in
    let kept = c.loop-k.invariant in
    let items = c.loop-k.codewords.items in
    let right = bit_xor (get_or items k 0) c.next_error.result in
    let count = length-set items k right in
    let same = refill-same items (set items k right) (length items) refl count in
    let turn : length damaged - k ≡ length damaged - 1 - k + 1 = omega arith in
    let less : length damaged - (k + 1) ≡ length damaged - 1 - k = omega arith in
    let next : (errors : List ℕ) → AreErrors (length damaged) c.args.locator.now c.args.syndromes.now errors →
    AreLeft (length damaged - 1 - k + 1) (get_or errors k 0 ∷ drop (k + 1) errors) c.loop-k.removal =
    λ errors all. rw (drop_more errors k 0 (omega arith), turn) at (kept.left errors all) in record {
      long = rw c.deref_mut-in-loop-k.ensures.value (ap length same ∙ (count ∙ kept.long));
      removal = rw less c.next_error.ensures.removal;
      left = λ errors all. rw less (c.next_error.ensures.left (get_or errors k 0) (drop (k + 1) errors) (next errors all));
      sum = λ errors all.
          rw c.deref_mut-in-loop-k.ensures.value
          (same ∙ sum-set damaged errors items k c.next_error.result all.count (omega arith)
          (c.next_error.ensures.error (get_or errors k 0) (drop (k + 1) errors) (next errors all)) (kept.sum errors all));
    }

pub returns-then-len-le2-clause-sum : goal.returns-then-len-le2-clause-sum
returns-then-len-le2-clause-sum c = λ errors all.
    let kept = c.loop-k.invariant in
    let k = c.loop-k.k in
    let damaged = c.args.damaged.now in
    let items = c.loop-k.codewords.items in
    let here = c.deref_mut.ensures.value in
    let left = length items - k in
    let part : take left (drop k items) ≡ drop k items = search (rules, take_all, length-drop) in
    let none : post_of k left items ≡ [] = drop_all left (drop k items) (omega (arith, length-drop k items)) in
    let count : length (drop k items) ≡ length damaged - k = omega (arith, length-drop k items) in
    let rest = rw (here, part, count) at c.finish.ensures.sum (drop k errors) in
    let new = c.finish.new.codewords in
    let long : length new ≡ length damaged - k = rw (here, part, count) at c.finish.ensures.long in
    rw (here, none, append-nil new)
    (refill-same items (take k items ++ new) (length items) refl
    (omega (arith, length-append (take k items) new, length-take-le k items (omega arith)))
    ∙ sum-last damaged errors items new k all.count (omega arith) (kept.sum errors all) (rest (kept.left errors all)))

pub returns-clause-sum : goal.returns-clause-sum
returns-clause-sum c = λ errors all.
    let damaged = c.args.damaged.now in
    let k = c.loop-k.k in
    let sum = plus damaged errors in
    c.loop-k.invariant.sum errors all
    ∙ cc (take_all k sum (omega (arith, length-plus damaged errors (omega arith))), drop_all k damaged (omega arith), append-nil sum)
