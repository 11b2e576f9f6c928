use Rattle.{clap.proofs.WalkLemmas.first_value-rows, std.proofs.Common.rules}
use Rattle.qrencode_settings.proofs.settings.text_in.Goals as goal

pub returns : goal.returns
returns c = search (rules, first_value-rows)
