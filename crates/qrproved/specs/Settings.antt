-- What the numbers of a caller mean as a level, a rule and an interpretation, and which numbers are allowed.
use Rattle.std.specs.Prelude.{◌≡◌, ℕ, ◌<◌, ◌≤◌, nat_lt, ◌==◌, if◌then◌else◌}
use Rattle.qr_layout.specs.declared.level.Level.{Level}
use Rattle.qr_layout.specs.declared.level.Level.TheVariants as level
use Rattle.qr_bits.specs.declared.modes.Rule.{Rule}
use Rattle.qr_bits.specs.declared.modes.Rule.TheVariants as rule
use Rattle.qr_bits.specs.declared.interpretation.Interpretation.{Interpretation}
use Rattle.qr_bits.specs.declared.interpretation.Interpretation.TheVariants.{Default, Eci, Gs1}
use Rattle.qr_bits.specs.Interpretation.{MayAllowKanji}

-- The level that the number `n` of a caller means: 0 is L, 1 is M, 2 is Q and 3 is H. Numbers above 3 are out of range
-- [own]
abbrev pub level_of : ℕ → Level
level_of n = if n == 0 then level.L else (if n == 1 then level.M else (if n == 2 then level.Q else level.H))

-- The rule that the number `n` of a caller means: 0 allows all modes but kanji mode, 1 allows byte mode alone, and 2
-- allows all modes [own]
abbrev pub rule_of : ℕ → Rule
rule_of n = if n == 0 then rule.Auto else (if n == 1 then rule.BytesOnly else rule.WithKanji)

-- The interpretation that the number `n` of a caller means: a number below 1,000,000 is an ECI, 1,000,000 is no
-- interpretation, and 1,000,001 is GS1 data (ISO/IEC 18004:2015, 7.4.2, 7.4.8.2)
abbrev pub interpretation_of : ℕ → Interpretation
interpretation_of n = if nat_lt n 1000000 then Eci n else (if n == 1000000 then Default else Gs1)

-- The numbers are in range: the version is from 1 to 40, the level below 4, the rule below 3 and the interpretation
-- below 1,000,002. If the rule allows kanji mode, the interpretation has no ECI, or that of Shift JIS. The command
-- accepts 0 as a version, but the calls for C do not [own]
pub record AreSettings (version level rule interpretation : ℕ) : Type 0 where
  pub first : 1 ≤ version
  pub last : version ≤ 40
  pub level_in : level < 4
  pub rule_in : rule < 3
  pub interpretation_in : interpretation < 1000002
  pub kanji : rule ≡ 2 → MayAllowKanji (interpretation_of interpretation)

-- The numbers for one symbol are allowed. Beside the settings there is `boost`, which is 0 or 1. It says whether the
-- level may be raised [own]
abbrev pub AreSymbolSettings : (version level rule interpretation boost : ℕ) → Type 0
AreSymbolSettings version level rule interpretation boost = AreSettings version level rule interpretation × (boost < 2)
