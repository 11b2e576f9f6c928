-- How `qrproved_read` and `qrproved_mend` report the interpretation of the bytes that they read. `ecis` are the ECI
-- headers of a content.
use Rattle.std.specs.Prelude.{◌≡◌, ℕ, Bool, true, false, if◌then◌else◌, List, ◌++◌, map, take, drop, length, Option, None, Some}
use Rattle.std.specs.List.{list_any}
use Rattle.qr_bits.specs.declared.interpretation.EciChange.{EciChange}
use Rattle.qr_bits.specs.declared.interpretation.Fnc1.{Fnc1}
use Rattle.qr_bits.specs.declared.interpretation.Fnc1.TheVariants.{First, Second}
use Rattle.qr_bits.specs.declared.interpretation.Item.{Item}
use Rattle.qr_bits.specs.declared.interpretation.Item.TheVariants.{Data}
use Rattle.qr_bits.specs.declared.modes.Mode.{Mode}
use Rattle.qr_bits.specs.declared.modes.Mode.TheVariants.{Kanji}
use Rattle.qr_bits.specs.Interpretation.{fnc1_of}
use Rattle.qr_bits.specs.Parsing.{Content}
use Rattle.qrproved.specs.declared.interpretation.QrprovedEci.{QrprovedEci}

-- An ECI header as a caller receives it: its number, and how many bytes of the content come before it (ISO/IEC
-- 18004:2015, 7.4.2.2)
abbrev pub told_eci : EciChange → QrprovedEci
told_eci e = record { begin = e.begin; number = e.number }

-- `before` is the buffer before the call, and `after` the buffer after it. `after` begins with the ECI headers, or with
-- as many of the first ones as the buffer has room for. The rest of the buffer is unchanged [own]
abbrev pub HoldsEcis : List EciChange → List QrprovedEci → List QrprovedEci → Type 0
HoldsEcis ecis before after = after ≡ take (length before) (map told_eci ecis) ++ drop (length ecis) before

-- The numbers `fnc1` and `application` report FNC1. They are 0 and 0 without FNC1, 1 and 0 for FNC1 in first position,
-- and 2 and the application indicator for FNC1 in second position (ISO/IEC 18004:2015, 7.4.8)
abbrev pub TellsFnc1 : Option Fnc1 → (fnc1 application : ℕ) → Type 0
TellsFnc1 None fnc1 application = (fnc1 ≡ 0) × (application ≡ 0)
TellsFnc1 (Some First) fnc1 application = (fnc1 ≡ 1) × (application ≡ 0)
TellsFnc1 (Some (Second a)) fnc1 application = (fnc1 ≡ 2) × (application ≡ a)

-- The given mode is kanji mode (ISO/IEC 18004:2015, 7.4.1, Table 2)
abbrev pub is_kanji_mode : Mode → Bool
is_kanji_mode Kanji = true
is_kanji_mode _ = false

-- The item is a segment in kanji mode. Its bytes are characters of Shift JIS, whatever the other items say (ISO/IEC
-- 18004:2015, 7.3.6)
abbrev pub is_kanji : Item → Bool
is_kanji (Data s) = is_kanji_mode s.mode
is_kanji _ = false

-- `has_kanji` is 1 if one of the items is a segment in kanji mode, and otherwise 0 [own]
abbrev pub TellsKanji : List Item → ℕ → Type 0
TellsKanji items has_kanji = has_kanji ≡ (if list_any is_kanji items then 1 else 0)

-- The buffer and four numbers report the interpretation of the content. The buffer has as many of the ECI headers as it
-- has room for, `eci_count` is the number of all of them, `fnc1` and `application` report FNC1, and `has_kanji` reports
-- whether the content has kanji [own]
pub record TellsInterpretation (content : Content) (before after : List QrprovedEci) (eci_count fnc1 application has_kanji : ℕ) : Type 0 where
  pub ecis : HoldsEcis content.ecis before after
  pub count : eci_count ≡ length content.ecis
  pub position : TellsFnc1 (fnc1_of content.items) fnc1 application
  pub kanji : TellsKanji content.items has_kanji
