use Rattle.std.proofs.Common.{rules, ◌≡◌, ◌≤◌, ◌-◌, ◌+◌, cond, eqb, ◌/◌, ℕ, arith}
use Rattle.{std.proofs.lemmas.Bool.Decides.nat_tests, qr_layout.proofs.lemmas.alignment.centres-agree}
use Rattle.qr_layout.proofs.alignment.centre_list.Goals as goal

first : (n i many : ℕ) → n ≡ 1 → i ≡ n - 1 → many ≡ 0 → many ≡ cond (eqb i 0) 0 ((i + 1) / 7 + 2)
first n i many a b d = grind (arith, nat_tests)

other : (n i many k : ℕ) → (n ≡ 1 → ⊥) → 1 ≤ n → i ≡ n - 1 → k ≡ n / 7 + 2 → many ≡ k → many ≡ cond (eqb i 0) 0 ((i + 1) / 7 + 2)
other n i many k a l b d e = grind (arith, nat_tests)

pub returns : goal.returns
returns c =
    let n = c.number-number.result in
    let i = c.from.result in
    let many = c.if-number-eq1.many in
    centres-agree c.args.version i many (omega arith) (omega arith) (search rules)
