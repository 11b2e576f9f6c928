use Rattle.{std.proofs.Common.{◌+◌, ◌-◌, vec_len}, qr_bits.specs.declared.modes.TheConstants.INPUT_MAX}
use Rattle.qrencode_cli.proofs.lemmas.command.ReadingLemmas.{IsReading}
use Rattle.qrencode_cli.proofs.command.read_input.Given as goal

abbrev pub invariant-reads : goal.invariant-reads
invariant-reads g l = IsReading (g.R.Source.device l.fn.input) (g.R.Source.device l.input) l.bytes.items l.interrupted

abbrev pub decreases-reads : goal.decreases-reads
decreases-reads g l = (INPUT_MAX - vec_len l.bytes) + (999 - l.interrupted)
