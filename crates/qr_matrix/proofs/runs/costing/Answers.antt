use Rattle.{qr_matrix.specs.Steps.begin_five, std.proofs.{Common.{rules, ◌≡◌, ℕ, ◌+◌, ◌-◌, ◌<◌, Bool, ltb, ◌&&◌, ◌||◌, arith}, lemmas.Bool.Decides.nat_tests}}
use Rattle.qr_matrix.proofs.runs.costing.Goals as goal

-- what two shifts to the right make of the columns f at which five joined modules begin
near : (f : ℕ → Bool) (k : ℕ) (next : ℕ → Bool) (last : Bool) → k < 192 → ((m : ℕ) → m < 192 → next m ≡ (ltb 0 m && f (m - 1)))
    → last ≡ (ltb 0 k && next (k - 1)) → ((f k || next k) || last) ≡ ((f k || (ltb 0 k && f (k - 1))) || (ltb 1 k && f (k - 2)))
near f k next last l h e = search (rules, nat_tests)

pub returns : goal.returns
returns g c = λ b k l.
    let or = g.met.R.Rows.bitor_law in
    let and = g.met.R.Rows.bitand_law in
    let bit = g.R.Rows.bit in
    let fives : (n : ℕ) → bit c.bitand-fives.result b n ≡ begin_five (bit c.args.same b) n = λ n.
    let three : n + 2 + 1 ≡ n + 3 = omega arith in
    cc (c.shifted_left.ensures b n, c.shifted_left.ensures b (n + 2), c.shifted_left-2.ensures b n, and _ _ _ c.bitand-pairs.ensures b n, and _ _ _ c.bitand-pairs.ensures b (n + 2), and _ _ _ c.bitand-fives.ensures b n) in
    cc (or _ _ _ c.bitor.ensures b k, or _ _ _ c.bitor-2.ensures b k, near (bit c.bitand-fives.result b) k (bit c.shifted_right-next.result b) _ l (c.shifted_right-next.ensures b) (c.shifted_right.ensures b k l), fives k, fives (k - 1), fives (k - 2))
