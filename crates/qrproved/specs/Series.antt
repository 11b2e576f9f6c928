-- What `qrproved_encode_series` writes for the input `x`, and when its buffer is too short.
use Rattle.std.specs.Prelude.{◌≡◌, ℕ, ◌*◌, ◌<◌, false, List, length}
use Rattle.qr_layout.specs.Version.{side_of}
use Rattle.qr_bits.specs.declared.modes.Mode.TheVariants.{Kanji}
use Rattle.qr_bits.specs.Modes.{may_use}
use Rattle.qr_symbol.specs.declared.symbol.Symbol.{Symbol}
use Rattle.qr_symbol.specs.Series.{squares_of, IsSeries, NeedsParts}
use Rattle.qr_symbol.specs.Joining.{AreInterpreted, IsJoined}
use Rattle.qrproved.specs.declared.series.QrprovedSeries.{QrprovedSeries}
use Rattle.qrproved.specs.Settings.{AreSettings, interpretation_of, level_of, rule_of}
use Rattle.qrproved.specs.Modules.{HoldsSquares}

-- The numbers are allowed, and the modules of the series of the input were written to the buffer. `t` has the number of
-- symbols in the series and the side of each. If the symbols are read and joined, they yield the input, and each symbol
-- has the interpretation that was asked for. Without kanji mode there are as few symbols as possible: if the input is
-- cut into parts that each fit a symbol with a structured append header, there are at least as many parts as symbols
-- [own]
pub record IsWrittenSeries (x : List ℕ) (version level rule interpretation : ℕ) (before after : List ℕ) (t : QrprovedSeries) : Type 0 where
  pub settings : AreSettings version level rule interpretation
  pub symbols : List Symbol
  pub made : IsSeries version (level_of level) (rule_of rule) (interpretation_of interpretation) x symbols
  pub joined : IsJoined (squares_of symbols) x
  pub interpreted : AreInterpreted (interpretation_of interpretation) (squares_of symbols)
  pub shortest : may_use (rule_of rule) Kanji ≡ false → NeedsParts version (level_of level) (rule_of rule) (interpretation_of interpretation) x (length symbols)
  pub count : t.count ≡ length symbols
  pub side : t.side ≡ side_of version
  pub holds : HoldsSquares t.side (squares_of symbols) before after

-- The symbols in the series of the input together have more modules than `buffer` has bytes [own]
pub record HasNoSeriesRoom (x : List ℕ) (version level rule interpretation : ℕ) (buffer : List ℕ) : Type 0 where
  pub symbols : List Symbol
  pub made : IsSeries version (level_of level) (rule_of rule) (interpretation_of interpretation) x symbols
  pub room : length buffer < length symbols * (side_of version * side_of version)
