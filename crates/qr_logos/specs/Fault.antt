-- Which fault follows from a fault of a crate below.
use Rattle.qr_bits.specs.declared.fault.BitFault.{BitFault}
use Rattle.qr_bits.specs.declared.fault.BitFault.TheVariants as bit
use Rattle.qr_symbol.specs.declared.fault.EncodeFault.{EncodeFault}
use Rattle.qr_symbol.specs.declared.fault.EncodeFault.TheVariants as unencoded
use Rattle.qr_logos.specs.declared.fault.LogoFault.{LogoFault}
use Rattle.qr_logos.specs.declared.fault.LogoFault.TheVariants as fault

-- The fault of encoding with a logo that has the same name as the given fault of `qr_bits` [own]
abbrev pub fault_of : BitFault → LogoFault
fault_of bit.Memory = fault.Memory
fault_of bit.TooLong = fault.TooLong

-- The fault of encoding with a logo that follows from a fault of encoding without one. `TooMany` is a fault of series,
-- which have no logos [own]
abbrev pub encode_fault_of : EncodeFault → LogoFault
encode_fault_of unencoded.Empty = fault.Empty
encode_fault_of unencoded.TooLong = fault.TooLong
encode_fault_of unencoded.TooMany = fault.TooLong
encode_fault_of unencoded.Memory = fault.Memory
