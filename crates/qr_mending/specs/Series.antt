-- How the damaged symbols of a series are mended, read and joined in their order.
use Rattle.std.specs.Prelude.{ℕ, List}
use Rattle.qr_layout.specs.declared.level.Level.{Level}
use Rattle.qr_bits.specs.Parsing.{Content}
use Rattle.qr_matrix.specs.Grid.{Grid, light}
use Rattle.qr_symbol.specs.declared.fault.ReadFault.{ReadFault}
use Rattle.qr_symbol.specs.Joining.{IsJoinedBy, IsUnjoinedBy}
use Rattle.qr_mending.specs.declared.erasures.Changes.{Changes}
use Rattle.qr_mending.specs.Mending.{IsMendedReading, IsUnmended}

-- The square `g`, of which all modules were read, is mended with some version, level and mask, and read as `content`
-- (ISO/IEC 18004:2015, 12)
abbrev pub IsMendedContent : Grid → Content → Type 0
IsMendedContent g content = (v : ℕ) × (l : Level) × (mask : ℕ) × (changed : List Changes) × IsMendedReading (light g.side) g v l mask content changed

-- The squares can be mended and read. Either there is one content, which is plain, or the contents are those of a whole
-- series. `bytes` are the bytes of all contents, one content after the other (ISO/IEC 18004:2015, 8.1 to 8.3, 12)
abbrev pub IsMendedSeries : List Grid → List ℕ → Type 0
IsMendedSeries squares bytes = IsJoinedBy IsMendedContent squares bytes

-- Mending the squares, reading them and joining their contents may fail with the fault `e`. `Memory` is always
-- possible. `Series` is possible if all squares can be mended and read, but their contents are neither one plain
-- content nor those of a whole series. Any other fault is possible if the first square that cannot be mended and read
-- is refused for it (ISO/IEC 18004:2015, 8.1 to 8.3, 12)
abbrev pub IsUnmendedSeries : List Grid → ReadFault → Type 0
IsUnmendedSeries squares e = IsUnjoinedBy IsMendedContent (λ g. IsUnmended (light g.side) g) squares e
