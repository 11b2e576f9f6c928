use Rattle.qr_bits.specs.{Interpretation.is_doubled, Steps.{BestModes.in_state, RunState.{byte_cost, state_after}}}
use Rattle.{qr_bits.specs.declared.modes.Mode.TheVariants.Alphanumeric, std.proofs.Common.{rules, ◌≡◌, true, false, sym, ◌∙◌}}
use Rattle.qr_bits.proofs.best_modes.character_choices.Goals as goal

pub returns-then-doubled : goal.returns-then-doubled
unfolding byte_cost state_after in_state
returns-then-doubled c = λ i r x pair may doubled.
    let two : is_doubled i x Alphanumeric ≡ true = sym doubled ∙ c.if-doubled.true in
    rw (two, ← may) (search rules)

pub returns-else-doubled : goal.returns-else-doubled
unfolding byte_cost state_after in_state
returns-else-doubled c = λ i r x pair may doubled.
    let h = c.args.first_choices.now in
    let one : is_doubled i x Alphanumeric ≡ false = sym doubled ∙ c.if-doubled.false in
    rw (one, ← may) (search rules)
