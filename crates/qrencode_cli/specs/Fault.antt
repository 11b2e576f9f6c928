-- The line on standard error for each fault of a run.
use Rattle.std.specs.Prelude.{ℕ, List, codes}
use Rattle.std.specs.String.{string_bytes}
use Rattle.qr_symbol.specs.declared.fault.EncodeFault.TheVariants as encode
use Rattle.qrencode_cli.specs.declared.fault.Fault.{Fault}
use Rattle.qrencode_cli.specs.declared.fault.Fault.TheVariants as fault
use Rattle.qrencode_settings.specs.declared.settings.UsageFault.TheVariants as usage

-- What is written to standard error for this fault. It is one line, except if `clap` refuses the arguments: then it is
-- the text of `clap`, which may have several lines [own]
abbrev pub fault_line : Fault → List ℕ
fault_line (fault.Usage (usage.Words text)) = string_bytes text
fault_line (fault.Usage usage.Level) = codes "qrencode: unknown level\n"
fault_line (fault.Usage usage.Kind) = codes "qrencode: unknown type\n"
fault_line (fault.Usage usage.NeedsVersion) = codes "qrencode: -S needs -v\n"
fault_line (fault.Encode encode.Empty) = codes "qrencode: input is empty\n"
fault_line (fault.Encode encode.TooLong) = codes "qrencode: input does not fit\n"
fault_line (fault.Encode encode.TooMany) = codes "qrencode: more than 16 symbols\n"
fault_line fault.Read = codes "qrencode: read error\n"
fault_line fault.Write = codes "qrencode: write error\n"
fault_line _ = codes "qrencode: out of memory\n"
