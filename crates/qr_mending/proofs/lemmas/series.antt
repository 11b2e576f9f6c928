-- A damaged square is mended to at most one content.
use Rattle.{qr_bits.specs.Parsing.Content, qr_matrix.specs.Grid.{Grid, light}, qr_mending.proofs.lemmas.mending.{mended-reading-one, mended-not-refused}}
use Rattle.qr_mending.specs.{Mending.IsUnmended, Series.IsMendedContent}
use Rattle.qr_symbol.specs.declared.fault.ReadFault.{ReadFault}
use Rattle.std.proofs.Common.{arith, ◌≡◌}
use Rattle.qr_symbol.specs.declared.fault.ReadFault.TheVariants as fault

-- a square is mended to at most one content
pub content-one : (g : Grid) (c d : Content) → IsMendedContent g c → IsMendedContent g d → c ≡ d
content-one g c d h k = (mended-reading-one (light g.side) g h.0 k.0 h.1 k.1 h.2 k.2 c d h.3 k.3 h.4 k.4).3

-- a square that is mended is refused only for lack of memory
pub content-refused : (g : Grid) (c : Content) (e : ReadFault) → IsMendedContent g c → IsUnmended (light g.side) g e → e ≡ fault.Memory
content-refused g c e h u = search (arith, mended-not-refused)
