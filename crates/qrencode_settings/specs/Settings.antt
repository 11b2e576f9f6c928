-- The settings that follow from the arguments, and the reasons to refuse arguments. `rows` are the arguments that
-- `clap` found, with their values. In the letter of a level and the name of a type of drawing, small letters and
-- capitals are alike.
use Rattle.std.specs.Prelude.{◌≡◌, ◌==◌, ◌&&◌, ℕ, Bool, false, nat_le, List, length, Option, Some, None, option_and_then, Result, Ok, Err, codes, if◌then◌else◌}
use Rattle.std.specs.Option.{is_none, option_map_or}
use Rattle.std.specs.Str.{bytes_eq, str_eq_ignore_ascii_case}
use Rattle.clap.specs.Words.{first_of, one_of}
use Rattle.clap.specs.Walk.{Row, Text, byte_or_zero}
use Rattle.qr_layout.specs.declared.level.Level.{Level}
use Rattle.qr_layout.specs.declared.level.Level.TheVariants as level
use Rattle.qrencode_settings.specs.Arguments.{faults_for, rows_for}
use Rattle.qr_drawing.specs.declared.drawing.Drawing.{Drawing}
use Rattle.qr_drawing.specs.declared.drawing.Drawing.TheVariants as drawing
use Rattle.qrencode_settings.specs.declared.settings.UsageFault.{UsageFault}
use Rattle.qrencode_settings.specs.declared.settings.UsageFault.TheVariants as usage

-- The reasons to refuse arguments. The reason `refused_by_clap` does not say which text `clap` writes. Lack of memory
-- is a fault, but no reason [own]
pub data Reason : Type 0 where
  refused_by_clap : Reason
  unknown_level : Reason
  unknown_type : Reason
  needs_version : Reason

-- What contracts see of `Settings`: numbers for the version and the margin, and bytes for the string. Four fields say
-- whether an option is given: `bytes_only` is for -8, `kanji` for -k, `fold` for -i and `structured` for -S [own]
pub record SettingsView : Type 0 where
  pub level : Level
  pub smallest : Option ℕ
  pub kind : Drawing
  pub margin : ℕ
  pub bytes_only : Bool
  pub kanji : Bool
  pub fold : Bool
  pub structured : Bool
  pub string : Option Text

-- The error correction level whose letter is the text `t`, or none if there is no such level [own]
abbrev pub level_named : Text → Option Level
level_named t =
    if str_eq_ignore_ascii_case t (codes "l") then Some level.L else
    (if str_eq_ignore_ascii_case t (codes "m") then Some level.M else
    (if str_eq_ignore_ascii_case t (codes "q") then Some level.Q else
    (if str_eq_ignore_ascii_case t (codes "h") then Some level.H else None)))

-- The type of drawing whose name is the text `t`, or none if there is no such type [own]
abbrev pub drawing_named : Text → Option Drawing
drawing_named t =
    if str_eq_ignore_ascii_case t (codes "ascii") then Some drawing.Ascii else
    (if str_eq_ignore_ascii_case t (codes "asciii") then Some drawing.AsciiInverse else
    (if str_eq_ignore_ascii_case t (codes "utf8") then Some drawing.Utf8 else
    (if str_eq_ignore_ascii_case t (codes "svg") then Some drawing.Svg else None)))

-- The number that is the value of an option, or `otherwise` if the option is not given. A value that cannot be parsed
-- as a number from 0 to 255, such as `-0`, counts as 0 [own]
abbrev pub number_or : ℕ → Option Text → ℕ
number_or otherwise o = option_map_or byte_or_zero o otherwise

-- The version, from 1 to 40, that the option -v gives. If -v is 0 or not given, there is none [own]
abbrev pub version_at : Option Text → Option ℕ
version_at o = let n = number_or 0 o in if nat_le 1 n && nat_le n 40 then Some n else None

-- The option, which takes no value on the command line, is given. Then `clap` finds the text `true` as its value [own]
abbrev pub flag_at : Option Text → Bool
flag_at o = option_map_or (λ t. bytes_eq t (codes "true")) o false

-- The settings that `rows` ask for. Their level and their type of drawing have been found in `rows` before, and are
-- `level` and `kind`. Without -m the margin is 4 modules, which is the width of the quiet zone (ISO/IEC 18004:2015,
-- 6.3.8)
abbrev pub settings_with : List Row → Level → Drawing → SettingsView
settings_with rows level kind = record {
  level = level;
  smallest = version_at (one_of (codes "version") rows);
  kind = kind;
  margin = number_or 4 (one_of (codes "margin") rows);
  bytes_only = flag_at (first_of (codes "bytes-only") rows);
  kanji = flag_at (first_of (codes "kanji") rows);
  fold = flag_at (first_of (codes "fold") rows);
  structured = flag_at (first_of (codes "structured") rows);
  string = first_of (codes "string") rows;
}

-- The settings `s`, or the reason `needs_version` if -S asks for a series and no version is given [own]
abbrev pub checked_series : SettingsView → Result SettingsView Reason
checked_series s = if s.structured && is_none s.smallest then Err needs_version else Ok s

-- The settings that `rows` ask for, or the first reason to refuse them. The level is checked first, and is L if -l is
-- not given. Then the type of drawing is checked. Last it is checked that -v gives a version if -S is given [own]
abbrev pub settings_of : List Row → Result SettingsView Reason
settings_of rows =
    option_map_or (λ l. option_map_or (λ kind. checked_series (settings_with rows l kind))
    (option_and_then drawing_named (first_of (codes "type") rows)) (Err unknown_type))
    (option_map_or level_named (first_of (codes "level") rows) (Some level.L)) (Err unknown_level)

-- The settings of the arguments `words`, or the reason to refuse them. If `clap` finds a fault, this is the reason,
-- whatever else is wrong [own]
abbrev pub settings_for : List Text → Result SettingsView Reason
settings_for words = if length (faults_for words) == 0 then settings_of (rows_for words) else Err refused_by_clap

-- `o` is the settings, or the reason to refuse the arguments. The fault is the one for this reason, or it is lack of
-- memory, which can always occur [own]
abbrev pub IsUsageFault : Result SettingsView Reason → UsageFault → Type 0
IsUsageFault o (usage.Words text) = o ≡ Err refused_by_clap
IsUsageFault o usage.Level = o ≡ Err unknown_level
IsUsageFault o usage.Kind = o ≡ Err unknown_type
IsUsageFault o usage.NeedsVersion = o ≡ Err needs_version
IsUsageFault o usage.Memory = Unit {0}

-- The number of the fault. The reasons are numbered from 1 in the order in which they are checked, and lack of memory
-- is 5 [own]
abbrev pub usage_fault_number : UsageFault → ℕ
usage_fault_number (usage.Words text) = 1
usage_fault_number usage.Level = 2
usage_fault_number usage.Kind = 3
usage_fault_number usage.NeedsVersion = 4
usage_fault_number usage.Memory = 5
