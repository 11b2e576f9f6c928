use Rattle.std.proofs.{lemmas.Bool.{ne_eqb, false≢true}, Common.{◌≡◌, true, false, ◌&&◌, sym, ◌∙◌, rules}, Math.Bool.and-false}
use Rattle.qr_bits.specs.{declared.modes.Mode.TheVariants.Alphanumeric, Steps.{RunState.may_begin, Segmentation.is_escaped}}
use Rattle.qr_bits.proofs.lemmas.best_modes.ChoiceLemmas.{digit-written, own-character}
use Rattle.qr_bits.proofs.best_modes.row_of.Goals as goal

pub returns-then-not-pair-clause-row : goal.returns-then-not-pair-clause-row
returns-then-not-pair-clause-row c = λ i g.
    let r = c.args.case.rule in
    let x = c.args.byte in
    let digit = sym (c.may_begin-digit.ensures false) ∙ c.if-digit.true in
    let own = digit-written i r x false digit in
    rw c.if-not-pair.true (c.choices.ensures.row i r x (sym digit) (search rules))

pub returns-then-not-pair-clause-flag : goal.returns-then-not-pair-clause-flag
unfolding may_begin
returns-then-not-pair-clause-flag c = search (rules, and-false, ne_eqb, sym (c.may_begin-digit.ensures false) ∙ c.if-digit.true)

pub returns-then-pair-clause-row : goal.returns-then-pair-clause-row
returns-then-pair-clause-row c = λ i g p.
    let r = c.args.case.rule in
    let x = c.args.byte in
    let t = c.args.pair in
    let row = c.choices-row.ensures.row i r x (c.may_begin-digit.ensures t) (search rules) in
    rw (c.flagged.ensures.modes p) (row p)

pub returns-then-may_begin-clause-row : goal.returns-then-may_begin-clause-row
returns-then-may_begin-clause-row c = λ i g.
    let r = c.args.case.rule in
    let x = c.args.byte in
    let none : c.may_begin-digit.result ≡ false = search (rules, false≢true) in
    let escaped : (c.args.case.gs1 && is_escaped Alphanumeric x) ≡ false = search rules in
    let own = own-character i x (rw g at escaped) in
    rw c.if-pair.false (c.choices-then-may_begin.ensures.row i r x (sym none ∙ c.may_begin-digit.ensures false) (c.character_choices-characters-then-may_begin.ensures i r x false (search rules) (sym own.0)))

pub returns-else-may_begin-clause-row : goal.returns-else-may_begin-clause-row
returns-else-may_begin-clause-row c = λ i g.
    let r = c.args.case.rule in
    let x = c.args.byte in
    let none : c.may_begin-digit.result ≡ false = search (rules, false≢true) in
    let escaped : (c.args.case.gs1 && is_escaped Alphanumeric x) ≡ false = search rules in
    let own = own-character i x (rw g at escaped) in
    rw c.if-pair.false (c.choices-else-may_begin.ensures.row i r x (sym none ∙ c.may_begin-digit.ensures false) (c.character_choices-characters-else-may_begin.ensures i r x false (search rules) (sym own.0)))
