use Rattle.std.proofs.Common.{rules}
use Rattle.qr_scanning.proofs.lemmas.scanning.{ok-always, one-read-first}
use Rattle.qr_scanning.specs.Scanning.{FindsSymbol}
use Rattle.qr_scanning.proofs.scanning.scan.Goals as goal

pub returns-in_ok-push-in-Some-clause-symbol : goal.returns-in_ok-push-in-Some-clause-symbol
returns-in_ok-push-in-Some-clause-symbol c = λ s mirrored g shows _.
    (c.in-Some.symbol, search rules, (rw c.in-Some.is at c.in_ok-symbol.ensures.symbol) s mirrored g shows)

pub returns-in-None-clause-symbol : goal.returns-in-None-clause-symbol
returns-in-None-clause-symbol c = ok-always c.search.result (λ all. FindsSymbol c.args.picture.now c.args.most all.items) (λ all s mirrored g shows _.
    absurd ((rw c.in-None.is at c.in_ok-symbol.ensures.symbol) s mirrored g shows))

pub returns-in_ok-push-in-Some-clause-order : goal.returns-in_ok-push-in-Some-clause-order
returns-in_ok-push-in-Some-clause-order c =
    one-read-first c.in-Some.symbol c.push.new.self.items (search rules) (rw c.in-Some.is at c.in_ok-symbol.ensures.square).1
