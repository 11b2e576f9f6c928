use Rattle.clap.{proofs.WalkLemmas.one_text-rows, specs.Words.{found_of, one_text}}
use Rattle.qrencode_settings.{proofs.lemmas.settings.{number-some, number-none, number-err}, specs.Settings.number_or}
use Rattle.std.{proofs.Common.{rules, ◌∙◌, ap, Ok}, specs.Str.Parse.{ParsesUnsigned, ExplainsUnsignedError, HasUnsignedDigitsIfOk}}
use Rattle.qrencode_settings.proofs.settings.number_in.Goals as goal

pub returns-in-Ok-Some : goal.returns-in-Ok-Some
returns-in-Ok-Some c = number-some (λ bs r. ParsesUnsigned 8 10 bs r × ExplainsUnsignedError 10 bs r × HasUnsignedDigitsIfOk bs r) (λ t r g. g.0) c.args.otherwise
    (one_text (found_of c.args.matches.now) c.args.id.now) c.try_get_one.result c.try_get_one.ensures.none c.try_get_one.ensures.value c.in-Ok-Some.number (c.in-Ok-Some.is ∙ ap Ok c.in-Ok-Some.field-0-is)
    ∙ ap (number_or c.args.otherwise) (one_text-rows (found_of c.args.matches.now) c.args.id.now)

pub returns-in-Ok-None : goal.returns-in-Ok-None
returns-in-Ok-None c = search (rules, number-none, one_text-rows)

pub returns-in-Err : goal.returns-in-Err
returns-in-Err c = number-err (λ bs r. ParsesUnsigned 8 10 bs r × ExplainsUnsignedError 10 bs r × HasUnsignedDigitsIfOk bs r) (λ t r g. g.0) c.args.otherwise
    (one_text (found_of c.args.matches.now) c.args.id.now) c.try_get_one.result c.try_get_one.ensures.none c.try_get_one.ensures.value _ c.in-Err.is
    ∙ ap (number_or c.args.otherwise) (one_text-rows (found_of c.args.matches.now) c.args.id.now)
