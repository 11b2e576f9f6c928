-- What the laws of the settings state.
use Rattle.std.specs.Prelude.{◌≡◌, List, [], ◌∷◌, codes, Some, None, Ok, Err, String, true, false}
use Rattle.std.specs.Global.{Global}
use Rattle.clap.specs.Walk.{Text}
use Rattle.qr_layout.specs.declared.level.Level.TheVariants.{H, L, M, Q}
use Rattle.qr_drawing.specs.declared.drawing.Drawing.TheVariants.{Ascii, AsciiInverse, Svg, Utf8}
use Rattle.qrencode_settings.specs.Settings.{Reason, SettingsView, needs_version, refused_by_clap, settings_for, unknown_level, unknown_type, usage_fault_number}
use Rattle.qrencode_settings.specs.declared.settings.UsageFault.TheVariants as usage

-- The settings for the arguments `-t ASCII`. The type of drawing is ASCII, and all other settings have their defaults
-- [own]
abbrev pub by_default : SettingsView
by_default = record {
  level = L;
  smallest = None;
  kind = Ascii;
  margin = 4;
  bytes_only = false;
  kanji = false;
  fold = false;
  structured = false;
  string = None;
}

-- If the arguments `words` follow the program's name, the settings are `settings` [own]
abbrev pub IsTaken : List Text → SettingsView → Type 0
IsTaken words settings = settings_for (codes "qrencode" ∷ words) ≡ Ok settings

-- If the arguments `words` follow the program's name, they are refused for the reason `why` [own]
abbrev pub IsRefused : List Text → Reason → Type 0
IsRefused words why = settings_for (codes "qrencode" ∷ words) ≡ Err why

-- Lists of arguments. For each list the settings are stated, or the reason to refuse it [own]
pub record CommandLines : Type 0 where
  pub plain : IsTaken (codes "-t" ∷ codes "ASCII" ∷ []) by_default
  pub in_bytes : IsTaken (codes "-8" ∷ codes "-v" ∷ codes "1" ∷ codes "-t" ∷ codes "ascii" ∷ [])
      (record by_default { smallest = Some 1; bytes_only = true })
  pub automatic : IsTaken (codes "-tAscii" ∷ codes "-v0" ∷ []) by_default
  pub highest : IsTaken (codes "-t" ∷ codes "ascii" ∷ codes "-l" ∷ codes "h" ∷ codes "-v" ∷ codes "40" ∷ [])
      (record by_default { level = H; smallest = Some 40 })
  pub of_a_string : IsTaken (codes "-m" ∷ codes "0" ∷ codes "-t" ∷ codes "ascii" ∷ codes "--" ∷ codes "-8" ∷ [])
      (record by_default { margin = 0; string = Some (codes "-8") })
  pub of_an_empty_string : IsTaken (codes "-m" ∷ codes "100" ∷ codes "-t" ∷ codes "ascii" ∷ codes "" ∷ [])
      (record by_default { margin = 100; string = Some (codes "") })
  pub in_half_blocks : IsTaken (codes "-t" ∷ codes "utf8" ∷ codes "-l" ∷ codes "h" ∷ codes "A" ∷ [])
      (record by_default { level = H; kind = Utf8; string = Some (codes "A") })
  pub in_a_series : IsTaken (codes "-l" ∷ codes "Q" ∷ codes "-v" ∷ codes "2" ∷ codes "-m" ∷ codes "0" ∷ codes "-8" ∷ codes "-S"
      ∷ codes "-t" ∷ codes "svg" ∷ codes "A" ∷ [])
      (record by_default { level = Q; smallest = Some 2; kind = Svg; margin = 0; bytes_only = true; structured = true; string = Some (codes "A") })
  pub inverse : IsTaken (codes "-l" ∷ codes "m" ∷ codes "-t" ∷ codes "asciiI" ∷ [])
      (record by_default { level = M; kind = AsciiInverse })
  pub string_first : IsTaken (codes "A" ∷ codes "-t" ∷ codes "ASCII" ∷ []) (record by_default { string = Some (codes "A") })
  pub joined_letters : IsTaken (codes "-8Sv2" ∷ codes "-tutf8" ∷ codes "A" ∷ [])
      (record by_default { smallest = Some 2; kind = Utf8; bytes_only = true; structured = true; string = Some (codes "A") })
  pub plus_5 : IsTaken (codes "-v+5" ∷ codes "-t" ∷ codes "ASCII" ∷ []) (record by_default { smallest = Some 5 })
  pub minus_0 : IsTaken (codes "-m-0" ∷ codes "-t" ∷ codes "ASCII" ∷ []) (record by_default { margin = 0 })
  pub no_words : settings_for [] ≡ Err refused_by_clap
  pub name_alone : IsRefused [] refused_by_clap
  pub no_type : IsRefused (codes "-8" ∷ []) refused_by_clap
  pub other_type : IsRefused (codes "-t" ∷ codes "PNG" ∷ []) unknown_type
  pub type_before_version : IsRefused (codes "-S" ∷ codes "-t" ∷ codes "PNG" ∷ []) unknown_type
  pub empty_type : IsRefused (codes "-t" ∷ codes "" ∷ []) unknown_type
  pub other_level : IsRefused (codes "-l" ∷ codes "X" ∷ codes "-t" ∷ codes "PNG" ∷ []) unknown_level
  pub empty_level : IsRefused (codes "-l" ∷ codes "" ∷ codes "-t" ∷ codes "ASCII" ∷ []) unknown_level
  pub level_twice : IsRefused (codes "-l" ∷ codes "L" ∷ codes "-l" ∷ codes "L" ∷ codes "-t" ∷ codes "ASCII" ∷ []) refused_by_clap
  pub past_versions : IsRefused (codes "-v" ∷ codes "41" ∷ codes "-t" ∷ codes "ASCII" ∷ []) refused_by_clap
  pub type_twice : IsRefused (codes "-t" ∷ codes "ASCII" ∷ codes "-t" ∷ codes "ASCII" ∷ []) refused_by_clap
  pub flag_twice : IsRefused (codes "-8" ∷ codes "-8" ∷ codes "-t" ∷ codes "ASCII" ∷ []) refused_by_clap
  pub two_strings : IsRefused (codes "-t" ∷ codes "ASCII" ∷ codes "a" ∷ codes "b" ∷ []) refused_by_clap
  pub past_margins : IsRefused (codes "-m" ∷ codes "101" ∷ codes "-t" ∷ codes "ASCII" ∷ []) refused_by_clap
  pub no_version : IsRefused (codes "-S" ∷ codes "-t" ∷ codes "ASCII" ∷ []) needs_version
  pub version_0 : IsRefused (codes "-S" ∷ codes "-v" ∷ codes "0" ∷ codes "-t" ∷ codes "ASCII" ∷ []) needs_version
  pub series_twice : IsRefused (codes "-S" ∷ codes "-S" ∷ codes "-v" ∷ codes "1" ∷ codes "-t" ∷ codes "ASCII" ∷ []) refused_by_clap
  pub with_kanji : IsTaken (codes "-k" ∷ codes "-t" ∷ codes "ASCII" ∷ []) (record by_default { kanji = true })
  pub folding : IsTaken (codes "-i" ∷ codes "-t" ∷ codes "ASCII" ∷ []) (record by_default { fold = true })
  pub both_and_bytes : IsTaken (codes "-8ki" ∷ codes "-t" ∷ codes "ASCII" ∷ [])
      (record by_default { bytes_only = true; kanji = true; fold = true })
  pub kanji_twice : IsRefused (codes "-k" ∷ codes "-k" ∷ codes "-t" ∷ codes "ASCII" ∷ []) refused_by_clap
  pub folding_twice : IsRefused (codes "-ii" ∷ codes "-t" ∷ codes "ASCII" ∷ []) refused_by_clap
  pub long_name : IsRefused (codes "--type" ∷ codes "ASCII" ∷ []) refused_by_clap
  pub help : IsRefused (codes "-h" ∷ []) refused_by_clap
  pub long_help : IsRefused (codes "--help" ∷ []) refused_by_clap
  pub margin_twice : IsRefused (codes "-m" ∷ codes "1" ∷ codes "-m" ∷ codes "1" ∷ codes "-t" ∷ codes "ASCII" ∷ []) refused_by_clap
  pub version_twice : IsRefused (codes "-v" ∷ codes "1" ∷ codes "-v" ∷ codes "1" ∷ codes "-t" ∷ codes "ASCII" ∷ []) refused_by_clap
  pub below_versions : IsRefused (codes "-v" ∷ codes "-1" ∷ codes "-t" ∷ codes "ASCII" ∷ []) refused_by_clap
  pub version_of_letters : IsRefused (codes "-v" ∷ codes "abc" ∷ codes "-t" ∷ codes "ASCII" ∷ []) refused_by_clap
  pub empty_version : IsRefused (codes "-v" ∷ codes "" ∷ codes "-t" ∷ codes "ASCII" ∷ []) refused_by_clap
  pub type_without_a_value : IsRefused (codes "-t" ∷ []) refused_by_clap
  pub two_strings_after_dashes : IsRefused (codes "-t" ∷ codes "ASCII" ∷ codes "--" ∷ codes "A" ∷ codes "B" ∷ []) refused_by_clap

-- The number of each fault that the arguments can have [own]
pub record NumbersOfUsageFaults : Type 0 where
  pub words : (text : String Global) → usage_fault_number (usage.Words text) ≡ 1
  pub level : usage_fault_number usage.Level ≡ 2
  pub type : usage_fault_number usage.Kind ≡ 3
  pub version : usage_fault_number usage.NeedsVersion ≡ 4
  pub memory : usage_fault_number usage.Memory ≡ 5
