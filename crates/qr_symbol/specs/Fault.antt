-- Which fault follows from a fault of `qr_bits`, and the numbers of the faults of reading.
use Rattle.std.specs.Prelude.{ℕ}
use Rattle.qr_bits.specs.declared.fault.BitFault.{BitFault}
use Rattle.qr_bits.specs.declared.fault.BitFault.TheVariants as bit
use Rattle.qr_bits.specs.declared.fault.ParseFault.{ParseFault}
use Rattle.qr_bits.specs.declared.fault.ParseFault.TheVariants as unparsed
use Rattle.qr_symbol.specs.declared.fault.EncodeFault.{EncodeFault}
use Rattle.qr_symbol.specs.declared.fault.EncodeFault.TheVariants as fault
use Rattle.qr_symbol.specs.declared.fault.ReadFault.{ReadFault}
use Rattle.qr_symbol.specs.declared.fault.ReadFault.TheVariants as unread

-- The fault of encoding that has the same name as the given fault of `qr_bits` [own]
abbrev pub fault_of : BitFault → EncodeFault
fault_of bit.Memory = fault.Memory
fault_of bit.TooLong = fault.TooLong

-- A number from 1 to 6 for each fault of reading. Later versions of this crate keep these numbers. The library for C
-- has another numbering [own]
abbrev pub read_fault_number : ReadFault → ℕ
read_fault_number unread.Memory = 1
read_fault_number unread.Side = 2
read_fault_number unread.Format = 3
read_fault_number unread.Check = 4
read_fault_number (unread.Segments why) = 5
read_fault_number unread.Series = 6

-- The fault of reading that follows from a fault of parsing: `Memory` from lack of memory, and `Segments` from any
-- other [own]
abbrev pub unread_for : ParseFault → ReadFault
unread_for unparsed.Memory = unread.Memory
unread_for e = unread.Segments e
