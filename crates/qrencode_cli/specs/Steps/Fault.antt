-- How faults of two steps of a run become faults of the run. One step finds the settings in the arguments, and the
-- other encodes the input. Lack of memory becomes the same fault in both.
use Rattle.qr_symbol.specs.declared.fault.EncodeFault.{EncodeFault}
use Rattle.qr_symbol.specs.declared.fault.EncodeFault.TheVariants as encode
use Rattle.qrencode_cli.specs.declared.fault.Fault.{Fault}
use Rattle.qrencode_cli.specs.declared.fault.Fault.TheVariants as fault
use Rattle.qrencode_settings.specs.declared.settings.UsageFault.{UsageFault}
use Rattle.qrencode_settings.specs.declared.settings.UsageFault.TheVariants as usage

-- The `Fault` of a run that finds the given `UsageFault` in its arguments
abbrev pub fault_of_words : UsageFault → Fault
fault_of_words usage.Memory = fault.Memory
fault_of_words f = fault.Usage f

-- The `Fault` of a run whose input is not encoded because of the given `EncodeFault`
abbrev pub fault_of_input : EncodeFault → Fault
fault_of_input encode.Memory = fault.Memory
fault_of_input f = fault.Encode f
