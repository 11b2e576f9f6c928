use Rattle.qr_field.proofs.lemmas.galois.{BitLemmas.xor-cancel, PowerLemmas.{powers-apart, power-lt}}
use Rattle.std.proofs.{lemmas.{Nat.xor_comm, List.{get_or-take, Elements.All-head}}, Common.{rules, ◌≡◌, ap, length, arith}}
use Rattle.qr_mending.proofs.lemmas.errors.RemovalLemmas.{located-rest, located-divided, error-sum, factor-one, none-later, refill-same}
use Rattle.qr_mending.proofs.errors.Removal.error_at_root.Goals as goal

pub returns-clause-removal : goal.returns-clause-removal
returns-clause-removal c = search (arith, refill-same, power-lt, powers-apart)

pub returns-clause-error : goal.returns-clause-error
returns-clause-error c = λ first errors left.
    let old = c.args.self.now.locator.items in
    let new = c.divide_out-value_at_root.new.locator.items in
    let all = left.errors in
    let long : length errors ≡ c.args.location = omega arith in
    let rest = located-divided old new errors (omega arith) (located-rest old errors first all.located)
    (rw (c.power_of-root.ensures, ← long) at c.divide_out-value_at_root.ensures.others) in
    let sum = error-sum new c.args.self.now.syndromes.items errors first (rw c.as_slice.ensures.value at c.dot.ensures.bytes)
    all.located.bytes rest all.values (omega arith) in
    search (rules, factor-one, All-head)

pub returns-clause-left : goal.returns-clause-left
returns-clause-left c = λ first errors left.
    let old = c.args.self.now.locator.items in
    let new = c.divide_out-value_at_root.new.locator.items in
    let all = left.errors in
    let long : length errors ≡ c.args.location = omega arith in
    let cut = c.truncate.new.self.items in
    let rest = c.remove.new.syndromes in
    let same = c.as_mut_slice.ensures.value in
    let count : length rest ≡ length cut = omega (arith, ap length same) in
    let found = returns-clause-error c first errors left in record {
      errors = record {
        count = long;
        located = located-divided old new errors (omega arith) (located-rest old errors first all.located)
            (rw (c.power_of-root.ensures, ← long) at c.divide_out-value_at_root.ensures.others);
        values = search (rules, refill-same, get_or-take, xor_comm, xor-cancel);
      };
      none = search (rules, none-later);
    }
