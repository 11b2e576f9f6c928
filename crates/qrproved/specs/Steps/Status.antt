-- The status of each fault. A status is the number that a call returns.
use Rattle.std.specs.Prelude.{ℕ}
use Rattle.qr_symbol.specs.declared.fault.EncodeFault.{EncodeFault}
use Rattle.qr_symbol.specs.declared.fault.EncodeFault.TheVariants as fault
use Rattle.qr_symbol.specs.declared.fault.ReadFault.{ReadFault}
use Rattle.qr_symbol.specs.declared.fault.ReadFault.TheVariants as unread
use Rattle.qr_parsing.specs.declared.parsing.DrawingFault.{DrawingFault}
use Rattle.qr_parsing.specs.declared.parsing.DrawingFault.TheVariants as undrawn

-- The status that a call returns if an input is not encoded because of this fault
abbrev pub encode_status : EncodeFault → ℕ
encode_status fault.Empty = 1
encode_status fault.TooLong = 2
encode_status fault.TooMany = 3
encode_status fault.Memory = 4

-- The status that a call returns if a square is not read because of this fault. `Series` is a fault of reading several
-- symbols at once, which no call does
abbrev pub read_status : ReadFault → ℕ
read_status unread.Memory = 4
read_status unread.Side = 7
read_status unread.Format = 8
read_status unread.Check = 9
read_status (unread.Segments why) = 10
read_status unread.Series = 10

-- The status that a call returns if a text is not parsed because of this fault
abbrev pub drawing_status : DrawingFault → ℕ
drawing_status undrawn.NotADrawing = 11
drawing_status undrawn.Memory = 4
