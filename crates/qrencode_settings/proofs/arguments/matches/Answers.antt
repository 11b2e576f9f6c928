use Rattle.clap.specs.{Simple.{new_app, with_rule}, Walk.Rule, Words.{app_of, is_simple_and_free}, declared.builder.action.ArgAction.TheVariants.SetTrue}
use Rattle.{clap.specs.declared.builder.value_parser.ValueParser.TheVariants.Signed, qrencode_settings.proofs.arguments.matches.Goals.After-try_get_matches_from}
use Rattle.qrencode_settings.{proofs.lemmas.arguments.{faults-are, rows-are, is_free-command, kinds-not-empty, refused-words}, specs.Arguments.command}
use Rattle.std.proofs.Common.{◌≡◌, true, Some, ℤ, pos, ap, ap₂, codes, sym, ◌∙◌}
use Rattle.qrencode_settings.proofs.arguments.matches.Goals as goal

-- what `clap` is told of the command
is-command : (c : After-try_get_matches_from) → app_of c.in_ok-command.command ≡ command
unfolding command
is-command c =
    let a0 : app_of c.about.result ≡ new_app (codes "qrencode") = rw c.about.ensures c.new.ensures.app in
    let named = λ (r : Rule). record r { value_names = 1 } in
    let to-40 : c.value_parser.result.value_parser ≡ Some (Signed (pos 0) (pos 40)) = let g = c.value_parser.ensures.given in g.1 ∙ ap Some g.2 in
    let to-100 : c.value_parser-2.result.value_parser ≡ Some (Signed (pos 0) (pos 100)) = let g = c.value_parser-2.ensures.given in g.1 ∙ ap Some g.2 in
    let number = λ (most : ℤ) (r : Rule). record r { value_names = 1; parser = Some (Signed (pos 0) most) } in
    let flag = λ (r : Rule). record r { action = Some SetTrue } in
    let a1 = c.in_ok-arg.ensures.shape (rw c.value_name.ensures c.option.ensures.local) ∙ ap₂ with_rule a0
    (rw c.value_name.ensures (ap named c.option.ensures.rule)) in
    let a2 = c.in_ok-arg-2.ensures.shape (rw c.value_parser.ensures.others (rw c.value_name-2.ensures c.option-2.ensures.local)) ∙ ap₂ with_rule a1
    (rw (c.value_parser.ensures.others, to-40, c.value_name-2.ensures) (ap (number (pos 40)) c.option-2.ensures.rule)) in
    let a3 = c.in_ok-arg-3.ensures.shape (rw (c.required.ensures, c.value_name-3.ensures) c.option-3.ensures.local) ∙ ap₂ with_rule a2
    (rw (c.required.ensures, c.value_name-3.ensures) (ap (λ (r : Rule). record r { value_names = 1; required = true }) c.option-3.ensures.rule)) in
    let a4 = c.in_ok-arg-4.ensures.shape (rw c.value_parser-2.ensures.others (rw c.value_name-4.ensures c.option-4.ensures.local)) ∙ ap₂ with_rule a3
    (rw (c.value_parser-2.ensures.others, to-100, c.value_name-4.ensures) (ap (number (pos 100)) c.option-4.ensures.rule)) in
    let a5 = c.in_ok-arg-5.ensures.shape (rw c.action.ensures c.option-5.ensures.local) ∙ ap₂ with_rule a4 (rw c.action.ensures (ap flag c.option-5.ensures.rule)) in
    let a6 = c.in_ok-arg-6.ensures.shape (rw c.action-2.ensures c.option-6.ensures.local) ∙ ap₂ with_rule a5 (rw c.action-2.ensures (ap flag c.option-6.ensures.rule)) in
    let a7 = c.in_ok-arg-7.ensures.shape (rw c.action-3.ensures c.option-7.ensures.local) ∙ ap₂ with_rule a6 (rw c.action-3.ensures (ap flag c.option-7.ensures.rule)) in
    let a8 = c.in_ok-arg-8.ensures.shape (rw c.action-4.ensures c.option-8.ensures.local) ∙ ap₂ with_rule a7 (rw c.action-4.ensures (ap flag c.option-8.ensures.rule)) in
    c.in_ok-command.ensures.shape (rw (c.help.ensures, c.value_name-5.ensures) c.new-2.ensures.optional.1) ∙ ap₂ with_rule a8 (rw (c.help.ensures, c.value_name-5.ensures) (ap named c.new-2.ensures.rule))

pub returns-in-Ok-clause-taken : goal.returns-in-Ok-clause-taken
returns-in-Ok-clause-taken c =
    let is = is-command (goal.at.returns-in-Ok-clause-taken c).After-try_get_matches_from in
    sym (faults-are _ _ is) ∙ c.in-Ok.ensures.kinds (ap is_simple_and_free is ∙ is_free-command)

pub returns-in-Ok-clause-rows : goal.returns-in-Ok-clause-rows
returns-in-Ok-clause-rows c = rows-are _ _ _ (is-command (goal.at.returns-in-Ok-clause-rows c).After-try_get_matches_from) c.in-Ok.ensures.matches

pub returns-in-Err-clause-fault : goal.returns-in-Err-clause-fault
returns-in-Err-clause-fault c =
    let is = is-command (goal.at.returns-in-Err-clause-fault c).After-try_get_matches_from in
    c.refusal.ensures _ (λ other. refused-words _ (λ none. kinds-not-empty _ c.in-Err.error other
    (c.in-Err.ensures.kinds (ap is_simple_and_free is ∙ is_free-command)) (faults-are _ _ is ∙ none)))
