use Rattle.std.proofs.Common.{◌≡◌, ℕ, ◌+◌, ◌-◌, List, ◌++◌, length, take, drop, refl, ap, sym, ◌∙◌, arith}
use Rattle.std.proofs.{lemmas.List.{drop-drop, length-take-le, take-append-drop}, Math.Seq.take-append_seam}
use Rattle.qr_devices.proofs.trial.Trial.give.Goals as goal

-- what was left is what is given, and what is left after it
given : (xs ys new : List ℕ) (p n : ℕ) → length new ≡ n → new ≡ take (p + n - p) (drop p xs) → drop p xs ≡ take n (new ++ ys) ++ drop (p + n) xs
given xs ys new p n l e =
    let count : p + n - p ≡ n = omega arith in
    let first : take n (new ++ ys) ≡ take n (drop p xs) = ap (λ k. take k (new ++ ys)) (sym l) ∙ take-append_seam new ys ∙ e ∙ ap (λ k. take k (drop p xs)) count in
    sym (take-append-drop n (drop p xs)) ∙ rw (← first, drop-drop n p xs) refl

pub returns-clause-given : goal.returns-clause-given
returns-clause-given c =
    given c.args.self.now.bytes.items (drop c.args.n c.args.buf.now) c.copy_from_slice.new.self c.args.self.now.position c.args.n (c.copy_from_slice.ensures.len ∙ length-take-le c.args.n c.args.buf.now c.requires.fits) (rw c.as_slice.ensures.value at c.copy_from_slice.ensures.after)
