-- What the laws of the command state.
use Rattle.std.specs.Prelude.{◌≡◌, ℕ, List, [], ◌∷◌, codes, Result, MatchResult, true, false}
use Rattle.clap.specs.Walk.{Text}
use Rattle.qr_bits.specs.declared.modes.Rule.TheVariants.{Auto, BytesOnly, WithKanji}
use Rattle.qr_bits.specs.Folding.{folded}
use Rattle.qrencode_cli.specs.Command.{HasDrawing, IsRefusal, Runs, held}
use Rattle.qr_devices.specs.Device.{Reader, Writer}
use Rattle.qrencode_cli.specs.Fault.{fault_line}
use Rattle.qrencode_cli.specs.Symbols.{rule_for}
use Rattle.qrencode_settings.specs.Laws.{by_default}
use Rattle.qrencode_settings.specs.Settings.{SettingsView}
use Rattle.qrencode_cli.specs.declared.fault.Fault.{Fault}
use Rattle.qrencode_cli.specs.declared.fault.Fault.TheVariants as fault
use Rattle.qr_symbol.specs.declared.fault.EncodeFault.TheVariants as encode
use Rattle.qrencode_settings.specs.declared.settings.UsageFault.TheVariants as usage

-- The same arguments and the same input have at most one drawing [own]
abbrev pub AnswersAreOne : Type 0
AnswersAreOne = (words : List Text) (given d e : List ℕ) → HasDrawing words given d → HasDrawing words given e → d ≡ e

-- If arguments and an input have a drawing, there is no correct reason to refuse them [own]
abbrev pub RefusalsExcludeDrawings : Type 0
RefusalsExcludeDrawings = (words : List Text) (given d : List ℕ) (f : Fault) → HasDrawing words given d → IsRefusal words given f → ⊥

-- The two faults are equal, or both say that `clap` refuses the arguments, with texts that may differ [own]
abbrev pub AreAlike : Fault → Fault → Type 0
AreAlike (fault.Usage (usage.Words text)) (fault.Usage (usage.Words other)) = Unit {0}
AreAlike r q = r ≡ q

-- Two refusals that are both correct for the same arguments and input are alike (`AreAlike`) [own]
abbrev pub RefusalsAreOne : Type 0
RefusalsAreOne = (words : List Text) (given : List ℕ) (r q : Fault) → IsRefusal words given r → IsRefusal words given q → AreAlike r q

-- The rule for each way to give or leave out the options -8 and -k [own]
pub record RulesOfModes : Type 0 where
  pub bytes : (s : SettingsView) → s.bytes_only ≡ true → rule_for s ≡ BytesOnly
  pub kanji : (s : SettingsView) → s.bytes_only ≡ false → s.kanji ≡ true → rule_for s ≡ WithKanji
  pub neither : (s : SettingsView) → s.bytes_only ≡ false → s.kanji ≡ false → rule_for s ≡ Auto

-- With -i the input is folded under the rule that -8 and -k determine, and without -i it stays as it is. In the
-- first example -i and -k are given, and a kanji pair stays unchanged although its second byte is the code of a small
-- letter. In the second example only -i is given, and this byte is folded [own]
pub record FoldingFollowsTheRule : Type 0 where
  pub folds : (s : SettingsView) (input : List ℕ) → s.fold ≡ true → held s input ≡ folded (rule_for s) input
  pub keeps : (s : SettingsView) (input : List ℕ) → s.fold ≡ false → held s input ≡ input
  pub pairs : held (record by_default { kanji = true; fold = true }) (0x93 ∷ 0x61 ∷ 0x61 ∷ []) ≡ 0x93 ∷ 0x61 ∷ 0x41 ∷ []
  pub letters : held (record by_default { fold = true }) (0x93 ∷ 0x61 ∷ 0x61 ∷ []) ≡ 0x93 ∷ 0x41 ∷ 0x41 ∷ []

-- A run returns 0 after success, and 1 after any fault [own]
abbrev pub StatusesAreTwo : Type 0
StatusesAreTwo = (words : List Text) (in0 in1 : Reader) (out0 out1 err0 err1 : Writer) (outcome : Result (Unit {0}) Fault) (status : ℕ)
    → Runs words in0 in1 out0 out1 err0 err1 outcome status → MatchResult outcome (λ _. status ≡ 0) (λ _. status ≡ 1)

-- The line that is written for each fault. Arguments that `clap` refuses are left out, since their text is written by
-- `clap` [own]
pub record LinesOfFaults : Type 0 where
  pub level : fault_line (fault.Usage usage.Level) ≡ codes "qrencode: unknown level\n"
  pub type : fault_line (fault.Usage usage.Kind) ≡ codes "qrencode: unknown type\n"
  pub version : fault_line (fault.Usage usage.NeedsVersion) ≡ codes "qrencode: -S needs -v\n"
  pub empty : fault_line (fault.Encode encode.Empty) ≡ codes "qrencode: input is empty\n"
  pub too_long : fault_line (fault.Encode encode.TooLong) ≡ codes "qrencode: input does not fit\n"
  pub too_many : fault_line (fault.Encode encode.TooMany) ≡ codes "qrencode: more than 16 symbols\n"
  pub read : fault_line fault.Read ≡ codes "qrencode: read error\n"
  pub memory : fault_line fault.Memory ≡ codes "qrencode: out of memory\n"
  pub write : fault_line fault.Write ≡ codes "qrencode: write error\n"
