-- Which symbols the settings `s` ask for, and under which rule of modes. A symbol is given by its square of modules.
use Rattle.std.specs.Prelude.{◌≡◌, ◌⊎◌, ℕ, true, false, List, [], ◌∷◌, unwrap_or, if◌then◌else◌}
use Rattle.qr_symbol.specs.declared.symbol.Symbol.{Symbol}
use Rattle.qr_bits.specs.declared.interpretation.Interpretation.TheVariants.{Default}
use Rattle.qr_bits.specs.declared.modes.Rule.{Rule}
use Rattle.qr_bits.specs.declared.modes.Rule.TheVariants.{Auto, BytesOnly, WithKanji}
use Rattle.qr_matrix.specs.Grid.{Grid}
use Rattle.qr_symbol.specs.Encoding.{IsSymbol}
use Rattle.qr_symbol.specs.VersionChoice.{HasNoVersion}
use Rattle.qr_symbol.specs.Series.{HasNoSeries, IsSeries, squares_of}
use Rattle.qrencode_settings.specs.Settings.{SettingsView}

-- The rule that the settings determine. With -8 it allows byte mode alone. Without -8 it allows all modes if -k is
-- given, and otherwise all modes but kanji mode [own]
abbrev pub rule_for : SettingsView → Rule
rule_for s = if s.bytes_only then BytesOnly else (if s.kanji then WithKanji else Auto)

-- The smallest version that the symbol of an input may have. In a series all symbols have this version. It is the one
-- that -v gives, or 1 if -v is 0 or not given [own]
abbrev pub smallest_of : SettingsView → ℕ
smallest_of s = unwrap_or s.smallest 1

-- `squares` are the squares of the symbols that the settings ask for: the symbols of a series of `input`, or the one
-- symbol of `input` [own]
abbrev pub AreSymbols : SettingsView → List ℕ → List Grid → Type 0
AreSymbols s input squares =
    ((s.structured ≡ true) × (symbols : List Symbol)
    × IsSeries (smallest_of s) s.level (rule_for s) Default input symbols × (squares ≡ squares_of symbols))
    ⊎ ((s.structured ≡ false) × (version mask : ℕ) × (square : Grid)
    × IsSymbol (smallest_of s) s.level (rule_for s) Default input version mask square × (squares ≡ square ∷ []))

-- The settings ask for one symbol, and `input` fits no version from the smallest version (`smallest_of`) on [own]
abbrev pub IsTooLong : SettingsView → List ℕ → Type 0
IsTooLong s input = (s.structured ≡ false) × HasNoVersion (smallest_of s) s.level (rule_for s) Default input

-- The settings ask for a series, and `input` would take more than 16 symbols. It does not fit one symbol of the version
-- and level in the settings, and it would be cut into more than 16 parts [own]
abbrev pub IsTooMany : SettingsView → List ℕ → Type 0
IsTooMany s input = (s.structured ≡ true) × HasNoSeries (smallest_of s) s.level (rule_for s) Default input
