-- Which bytes the symbols of a series contain together. `reads g c` says that the square `g` is read as the content
-- `c`, and `refuses g e` that it is refused for the fault `e`. Both are parameters, since symbols may be read with or
-- without mending.
use Rattle.std.specs.Prelude.{◌≡◌, ◌⊎◌, ℕ, ◌+◌, ◌-◌, ◌<◌, List, [], ◌∷◌, length, None, Some}
use Rattle.std.specs.List.{All, AllZip, flat_map}
use Rattle.qr_bits.specs.Parsing.{Content}
use Rattle.qr_bits.specs.Header.{parity_of}
use Rattle.qr_symbol.specs.declared.fault.ReadFault.{ReadFault}
use Rattle.qr_symbol.specs.declared.fault.ReadFault.TheVariants as unread
use Rattle.qr_matrix.specs.Grid.{Grid}
use Rattle.qr_bits.specs.declared.interpretation.Interpretation.{Interpretation}
use Rattle.qr_symbol.specs.Reading.{IsInterpreted, IsReading, IsUnread}

-- There are as many contents as squares, and each square is read as the content at the same index (ISO/IEC 18004:2015,
-- 12)
unfoldable pub AreReadBy : (Grid → Content → Type 0) → List Grid → List Content → Type 0
AreReadBy reads squares contents = AllZip reads squares contents

-- Each square can be read without correction of errors, and the content that is read has the interpretation `i`
-- (ISO/IEC 18004:2015, 7.4.2, 7.4.8.2, 12)
abbrev pub AreInterpreted : Interpretation → List Grid → Type 0
AreInterpreted i squares = All (λ g. (c : Content) × IsReading g c × IsInterpreted i c) squares

-- The bytes of all contents, one content after the other [own]
abbrev pub bytes_of_all : List Content → List ℕ
bytes_of_all contents = flat_map (λ c. c.bytes) contents

-- There is only one content, and it has no header [own]
abbrev pub IsPlain : List Content → Type 0
IsPlain contents = (c : Content) × (contents ≡ c ∷ []) × (c.header ≡ None)

-- Each content has a header with the numbers `last` and `parity`. The header of the first content has the position `k`,
-- and from each content to the next the position rises by 1 (ISO/IEC 18004:2015, 8.1 to 8.3)
unfoldable pub HaveHeaders : (last parity k : ℕ) → List Content → Type 0
HaveHeaders last parity k [] = Unit {0}
HaveHeaders last parity k (c ∷ cs) =
    (c.header ≡ Some (record { position = k; last = last; parity = parity })) × HaveHeaders last parity (k + 1) cs

-- There is at least one content, and the contents are those of a whole series, in order. The header of each content has
-- the content's position (counted from 0), the number of contents less 1, and the parity data of the bytes of all
-- contents (ISO/IEC 18004:2015, 8.1 to 8.3)
abbrev pub AreInSeries : List Content → Type 0
AreInSeries contents =
    (0 < length contents) × HaveHeaders (length contents - 1) (parity_of (bytes_of_all contents)) 0 contents

-- The contents can be joined: there is only one, which is plain, or they are the contents of a whole series [own]
abbrev pub BelongTogether : List Content → Type 0
BelongTogether contents = IsPlain contents ⊎ AreInSeries contents

-- The squares are read as contents that belong together: one plain content, or the contents of a whole series. `bytes`
-- are the bytes of these contents, one content after the other (ISO/IEC 18004:2015, 8.1 to 8.3, 12)
pub record IsJoinedBy (reads : Grid → Content → Type 0) (squares : List Grid) (bytes : List ℕ) : Type 0 where
  pub contents : List Content
  pub read : AreReadBy reads squares contents
  pub together : BelongTogether contents
  pub joined : bytes ≡ bytes_of_all contents

-- Some square of the list is refused for the fault `e`, and each square that comes before it in the list can be read
-- (ISO/IEC 18004:2015, 12)
unfoldable pub IsFirstRefused : (Grid → Content → Type 0) → (Grid → ReadFault → Type 0) → List Grid → ReadFault → Type 0
IsFirstRefused reads refuses [] e = ⊥
IsFirstRefused reads refuses (g ∷ gs) e = refuses g e ⊎ ((c : Content) × reads g c × IsFirstRefused reads refuses gs e)

-- All squares are read, but their contents are neither one plain content nor those of a whole series [own]
pub record IsNoSeries (reads : Grid → Content → Type 0) (squares : List Grid) : Type 0 where
  pub contents : List Content
  pub read : AreReadBy reads squares contents
  pub apart : BelongTogether contents → ⊥

-- Reading the squares and joining their contents may fail with the given fault. `Memory` is always possible. `Series`
-- is possible if all squares are read, but their contents are neither one plain content nor those of a whole series.
-- Any other fault is possible if the first square that cannot be read is refused for it [own]
abbrev pub IsUnjoinedBy : (Grid → Content → Type 0) → (Grid → ReadFault → Type 0) → List Grid → ReadFault → Type 0
IsUnjoinedBy reads refuses squares unread.Memory = Unit {0}
IsUnjoinedBy reads refuses squares unread.Series = IsNoSeries reads squares
IsUnjoinedBy reads refuses squares e = IsFirstRefused reads refuses squares e

-- The squares can be read without correction of errors. Their contents are one plain content or those of a whole
-- series, and `bytes` are the bytes of these contents, one content after the other (ISO/IEC 18004:2015, 8.1 to 8.3, 12)
abbrev pub IsJoined : List Grid → List ℕ → Type 0
IsJoined squares bytes = IsJoinedBy IsReading squares bytes

-- If the squares are read without correction of errors, reading them or joining their contents may fail with the fault
-- `e` (ISO/IEC 18004:2015, 12)
abbrev pub IsUnjoined : List Grid → ReadFault → Type 0
IsUnjoined squares e = IsUnjoinedBy IsReading IsUnread squares e
