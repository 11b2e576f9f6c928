-- What `qrproved_encode` and `qrproved_encode_bits` write for the input `x`, and when their buffer is too short.
use Rattle.std.specs.Prelude.{◌≡◌, ℕ, ◌*◌, ◌<◌, List, [], ◌∷◌, length}
use Rattle.qr_layout.specs.Version.{side_of}
use Rattle.qr_matrix.specs.Grid.{Grid}
use Rattle.qr_symbol.specs.Encoding.{IsBoostedSymbol, IsSymbol}
use Rattle.qr_symbol.specs.VersionChoice.{IsVersion}
use Rattle.qr_symbol.specs.Reading.{IsReadBack}
use Rattle.qrproved.specs.declared.encoding.QrprovedSymbol.{QrprovedSymbol}
use Rattle.qrproved.specs.Settings.{AreSymbolSettings, interpretation_of, level_of, rule_of}
use Rattle.qrproved.specs.Modules.{HoldsSquares}
use Rattle.qrproved.specs.Bits.{HoldsBits, bytes_of_bits}

-- The numbers are allowed, `square` has the modules of the symbol of the input, and `s` has the version, side, level and
-- mask of this symbol. Reading the symbol yields the input and its interpretation. If `boost` is 0, the symbol has the
-- level that was asked for. If `boost` is 1, it has the highest level at which the input fits this version, which is at
-- least the level that was asked for [own]
pub record IsEncoded (x : List ℕ) (version level rule interpretation boost : ℕ) (square : Grid) (s : QrprovedSymbol) : Type 0 where
  pub settings : AreSymbolSettings version level rule interpretation boost
  pub level_in : s.level < 4
  pub made : boost ≡ 0 → (s.level ≡ level) × IsSymbol version (level_of level) (rule_of rule) (interpretation_of interpretation) x s.version s.mask square
  pub boosted : boost ≡ 1 → IsBoostedSymbol version (level_of level) (rule_of rule) (interpretation_of interpretation) x s.version (level_of s.level) s.mask square
  pub read : IsReadBack s.version (rule_of rule) (interpretation_of interpretation) x square
  pub side : s.side ≡ square.side

-- The numbers are allowed, and the modules of the symbol of the input were written to the buffer. `s` has the version,
-- side, level and mask of this symbol [own]
pub record IsWritten (x : List ℕ) (version level rule interpretation boost : ℕ) (before after : List ℕ) (s : QrprovedSymbol) : Type 0 where
  pub square : Grid
  pub encoded : IsEncoded x version level rule interpretation boost square s
  pub holds : HoldsSquares s.side (square ∷ []) before after

-- The numbers are allowed, and the modules of the symbol of the input were written to the buffer as bits. `s` has the
-- version, side, level and mask of this symbol [own]
pub record IsWrittenAsBits (x : List ℕ) (version level rule interpretation boost : ℕ) (before after : List ℕ) (s : QrprovedSymbol) : Type 0 where
  pub square : Grid
  pub encoded : IsEncoded x version level rule interpretation boost square s
  pub holds : HoldsBits square before after

-- `buffer` has fewer bytes than the symbol of the input takes. The version of this symbol is `least`, the least one from
-- `version` on that the input fits, and a symbol of `side` rows takes `bytes side` bytes [own]
pub record LacksRoom (bytes : ℕ → ℕ) (x : List ℕ) (version level rule interpretation : ℕ) (buffer : List ℕ) : Type 0 where
  pub least : ℕ
  pub fits : IsVersion version (level_of level) (rule_of rule) (interpretation_of interpretation) x least
  pub room : length buffer < bytes (side_of least)

-- `buffer` has fewer bytes than the symbol of the input has modules [own]
abbrev pub HasNoRoom : (x : List ℕ) (version level rule interpretation : ℕ) (buffer : List ℕ) → Type 0
HasNoRoom = LacksRoom (λ side. side * side)

-- `buffer` has fewer bits than the symbol of the input has modules [own]
abbrev pub HasNoRoomForBits : (x : List ℕ) (version level rule interpretation : ℕ) (buffer : List ℕ) → Type 0
HasNoRoomForBits = LacksRoom bytes_of_bits
