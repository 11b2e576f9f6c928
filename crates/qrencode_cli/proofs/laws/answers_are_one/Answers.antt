use Rattle.{qrencode_cli.proofs.lemmas.laws.{answers-one, refusals-exclude, refusals-one}, std.proofs.Common.rules}
use Rattle.qrencode_cli.proofs.laws.answers_are_one.Goals as goal

pub returns : goal.returns
returns c = search (rules, answers-one, refusals-exclude, refusals-one)
