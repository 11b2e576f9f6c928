use Rattle.qr_layout.specs.Blocks.{correctable_of}
use Rattle.qr_logos.proofs.lemmas.logo.LargestLemmas.{allowed-next, clear-most, smaller-next}
use Rattle.std.proofs.Common.{◌≡◌, ◌<◌, ◌≤◌, ◌*◌, arith}
use Rattle.std.proofs.lemmas.Bool.{Decides.nat_tests}
use Rattle.qr_logos.proofs.logo.is_allowed.Goals as goal

pub returns-then-side-largest_clear-clause-refused : goal.returns-then-side-largest_clear-clause-refused
returns-then-side-largest_clear-clause-refused c = λ _ other a.
    omega (arith, clear-most c.args.version other (omega arith) a.clear, c.largest_clear.ensures.value, c.if-side-largest_clear.true)

pub returns-clause-allowed : goal.returns-clause-allowed
returns-clause-allowed c = λ e.
    let product : c.from.result * c.from-2.result ≡ c.args.share * correctable_of c.args.version c.args.level =
    cc (c.from.ensures, c.from-2.ensures, c.correctable.ensures) in
    let within : 100 * c.covered.result ≤ c.from.result * c.from-2.result = grind (arith, nat_tests, e, c.from-3.ensures) in
    allowed-next c.args.version c.args.level c.args.share c.args.side c.covered.result (c.from.result * c.from-2.result) (omega arith)
    (omega (arith, c.largest_clear.ensures.value, c.if-side-largest_clear.false)) c.covered.ensures product within

pub returns-clause-refused : goal.returns-clause-refused
returns-clause-refused c = λ e.
    let product : c.from.result * c.from-2.result ≡ c.args.share * correctable_of c.args.version c.args.level =
    cc (c.from.ensures, c.from-2.ensures, c.correctable.ensures) in
    let over : c.from.result * c.from-2.result < 100 * c.covered.result = grind (arith, nat_tests, e, c.from-3.ensures) in
    smaller-next c.args.version c.args.level c.args.share c.args.side c.covered.result (c.from.result * c.from-2.result) c.covered.ensures product over
