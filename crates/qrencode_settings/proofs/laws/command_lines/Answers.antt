use Rattle.{clap.proofs.OnLiterals.clap_on_literals, qrencode_settings.specs.Arguments.{command, faults_for, rows_for}, std.proofs.Common.rules}
use Rattle.qrencode_settings.proofs.laws.command_lines.Goals as goal

pub returns : goal.returns
unfolding clap_on_literals command faults_for rows_for
returns c = search rules
