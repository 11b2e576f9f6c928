use Rattle.std.proofs.Common.{rules, ◌≡◌, ℕ, ◌+◌, ◌*◌, ◌<◌, ◌≤◌, ◌⊎◌, false, true, ◌∙◌, ap, inl, inr, arith}
use Rattle.{std.proofs.lemmas.Bool.cases_lt, qr_matrix.specs.{Grid.{Grid, colour}, Penalty.penalty_of}}
use Rattle.qr_symbol.{proofs.lemmas.placement.PlacementLemmas.square-is, specs.{Choice.IsFirstLeast, Steps.Placement.masked_penalty}}
use Rattle.qr_symbol.proofs.mask.best_mask.Goals.{then-penalties-least, else-penalties-least, then-penalties-least-2, else-penalties-least-2}
use Rattle.qr_symbol.proofs.mask.best_mask.Goals as goal

-- m is the best of the numbers below n, and f has the value p there, or there is none yet
abbrev IsBest : (ℕ → ℕ) → ℕ → ℕ → ℕ → Type 0
IsBest f n m p = ((n ≡ 0) × (m ≡ 0) × (p ≡ 4294967295)) ⊎ (IsFirstLeast n f m × (p ≡ f m))

-- the number n, which has the value q, is better or not
next-best : (f : ℕ → ℕ) (n m p q x y : ℕ) → q ≡ f n → q ≤ 4294967295 → IsBest f n m p
    → ((q < p) × (x ≡ n) × (y ≡ q)) ⊎ ((p ≤ q) × (x ≡ m) × (y ≡ p)) → IsFirstLeast (n + 1) f x × (y ≡ f x)
next-best f n m p q x y e l (inl z) o = search arith
next-best f n m p q x y e l (inr b) o = search (arith, cases_lt)

pub loop-half-init : goal.loop-half-init
loop-half-init c = search (rules, square-is)

abbrev penalty : Grid → ℕ
penalty g = penalty_of g.side (colour g)

pub loop-half-preserved : goal.loop-half-preserved
loop-half-preserved c =
    let k = c.args.canvas.now in let h = c.loop-half.half in
    let f = masked_penalty k.version k.level k.region k.unmasked in let p = c.penalties-penalties in
    let one = next-best f (2 * h) _ _ p.result.0 c.if-penalties-least.best c.if-penalties-least.least (p.ensures.first ∙ ap penalty (c.draw_both_masked.ensures false)) (omega (arith, p.type_inv)) c.loop-half.invariant.best (elim c.if-penalties-least.branch [
      | then-penalties-least w ↦ inl (w.if-penalties-least.true, w.best-is, w.least-is)
      | else-penalties-least w ↦ inr (w.if-penalties-least.false, w.best-is, w.least-is)
    ]) in
    let two = next-best f (2 * h + 1) _ _ p.result.1 c.if-penalties-least-2.best c.if-penalties-least-2.least (p.ensures.second ∙ ap penalty (c.draw_both_masked.ensures true)) (omega (arith, p.type_inv)) (inr one) (elim c.if-penalties-least-2.branch [
      | then-penalties-least-2 w ↦ inl (w.if-penalties-least-2.true, w.best-is, w.least-is)
      | else-penalties-least-2 w ↦ inr (w.if-penalties-least-2.false, w.best-is, w.least-is)
    ]) in
    let last : 2 * h + 1 + 1 ≡ 2 * (h + 1) = omega arith in record {
      squares = search (rules, square-is);
      best = search rules;
    }
