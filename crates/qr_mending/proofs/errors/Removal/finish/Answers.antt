use Rattle.qr_field.proofs.lemmas.galois.PowerLemmas.{powers-apart}
use Rattle.qr_mending.proofs.errors.Removal.finish.Goals.{then-len-lt2-via-then-len-lt2, then-len-lt2-via-else-len-lt2+then-deref-eq0}
use Rattle.qr_mending.proofs.lemmas.errors.RemovalLemmas.{last-none, last-sum, leading-alone, leading-two, none-left, power-some}
use Rattle.{qr_mending.specs.Steps.Errors.IsLocated, std.proofs.Common.{rules, ℕ, List, get_or, subst, arith}}
use Rattle.qr_mending.proofs.errors.Removal.finish.Goals as goal

pub returns-then-len-lt2-clause-sum : goal.returns-then-len-lt2-clause-sum
returns-then-len-lt2-clause-sum c = λ errors left.
    let all = left.errors in
    let leading = c.requires.removal.leading in
    elim c.then-len-lt2.branch [
      | then-len-lt2-via-then-len-lt2 w ↦
          search (rules, none-left, leading-alone c.args.self.now.locator.items leading (omega arith))
      | then-len-lt2-via-else-len-lt2+then-deref-eq0 w ↦
          let two = leading-two c.args.self.now.locator.items leading (omega arith) in
          last-none c.args.codewords.now errors (get_or c.args.self.now.locator.items 0 0) all.count
          (subst (λ (t : List ℕ). IsLocated t errors) two all.located)
          (λ m l e. power-some m (omega arith) (cc))
    ]

pub returns-then-location-codewords-clause-sum : goal.returns-then-location-codewords-clause-sum
returns-then-location-codewords-clause-sum c = search (rules, leading-two, last-sum)

pub returns-else-location-codewords-clause-sum : goal.returns-else-location-codewords-clause-sum
returns-else-location-codewords-clause-sum c = λ errors left.
    let all = left.errors in
    let two = leading-two c.args.self.now.locator.items c.requires.removal.leading (omega arith) in
    last-none c.args.codewords.now errors _ all.count (subst (λ (t : List ℕ). IsLocated t errors) two all.located)
    (search (rules, powers-apart))
