-- A command line and an input have at most one drawing and at most one reason to be refused, and not both. A run whose status
-- is 0 has written the whole drawing.
use Rattle.clap.specs.{Walk.{Row, Text}, Words.first_of}
use Rattle.qr_bits.{proofs.Facts.empty-fits, specs.declared.interpretation.Interpretation.TheVariants.Default}
use Rattle.qr_devices.specs.Device.{Reader, Writer}
use Rattle.{qr_drawing.specs.declared.drawing.Drawing.Drawing, qr_layout.specs.declared.level.Level.Level, qr_matrix.specs.Grid.Grid}
use Rattle.qr_symbol.{proofs.Facts.{series-one, symbol-one}, specs.VersionChoice.FitsVersion}
use Rattle.qrencode_cli.specs.{Command.{DrawnWhole, HasDrawing, HasRefusal, IsDrawing, IsRefusal, Runs, RunsTo, held, input_for}}
use Rattle.qrencode_cli.specs.{Input.IsInputOf, Laws.{AnswersAreOne, RefusalsAreOne, RefusalsExcludeDrawings}}
use Rattle.qrencode_cli.specs.{Symbols.{AreSymbols, IsTooLong, IsTooMany, rule_for, smallest_of}, declared.fault.Fault.Fault}
use Rattle.qrencode_settings.specs.{Arguments.{faults_for, rows_for}, declared.settings.UsageFault.UsageFault}
use Rattle.qrencode_settings.specs.Settings.{Reason, SettingsView, checked_series, drawing_named, level_named, needs_version, refused_by_clap, settings_for, settings_of, settings_with, unknown_level, unknown_type}
use Rattle.std.proofs.Common.{◌≡◌, ◌<◌, ◌≤◌, ◌==◌, inl, inr, ℕ, suc, Bool, true, false, cond, List, [], length, Option, Some, codes, Result, Ok, Err, refl, sym, subst, arith}
use Rattle.std.specs.{Option.option_map_or, Prelude.option_and_then}
use borrow.Author.Tests.{leb-true}
use Rattle.qr_layout.specs.declared.level.Level.TheVariants as level
use Rattle.qr_symbol.specs.declared.fault.EncodeFault.TheVariants as encode
use Rattle.qrencode_cli.specs.declared.fault.Fault.TheVariants as fault
use Rattle.qrencode_settings.specs.declared.settings.UsageFault.TheVariants as usage

-- a command line has at most one list of settings
settings-one : (words : List Text) (s t : SettingsView) → settings_for words ≡ Ok s → settings_for words ≡ Ok t → s ≡ t
settings-one words s t a b = cc

-- the settings ask for at most one list of squares
squares-one : (s : SettingsView) (input : List ℕ) (g h : List Grid) → AreSymbols s input g → AreSymbols s input h → g ≡ h
squares-one s input g h (inl (a, ss, m, e)) (inl (b, ts, n, f)) = cc (series-one input s.level (rule_for s) Default (smallest_of s) ss ts m n)
squares-one s input g h (inr (a, v, mask, square, m, e)) (inr (b, w, other, grid, n, f)) =
    let k = (symbol-one input s.level (smallest_of s) (rule_for s) Default _ _ _ _ square grid m n).2 in cc
squares-one s input g h (inl a) (inr b) = cc
squares-one s input g h (inr a) (inl b) = cc

-- so the settings ask for at most one drawing
drawing-one : (s : SettingsView) (input d e : List ℕ) → IsDrawing s input d → IsDrawing s input e → d ≡ e
drawing-one s input d e a b = cc (squares-one s input a.squares b.squares a.symbols b.symbols)

pub answers-one : AnswersAreOne
answers-one words given d e a b =
    drawing-one b.settings (held b.settings (input_for b.settings given)) d e (subst (λ (s : SettingsView). IsDrawing s (held s (input_for s given)) d) (settings-one words a.settings b.settings a.taken b.taken) a.holds) b.holds

-- an input that has a symbol is not too long
not-too-long : (s : SettingsView) (input : List ℕ) (squares : List Grid) → AreSymbols s input squares → IsTooLong s input → ⊥
not-too-long s input squares (inl series) long = cc
not-too-long s input squares (inr (one, version, mask, square, symbol, e)) long = long.1 version symbol.version.least symbol.version.most symbol.version.fits

-- the number of the reason why a command line has no settings, or 0 if it has settings
class_of : Result SettingsView Reason → ℕ
class_of (Ok s) = 0
class_of (Err refused_by_clap) = 1
class_of (Err unknown_level) = 2
class_of (Err unknown_type) = 3
class_of (Err needs_version) = 4

-- the number of such a reason less 1
index_of : UsageFault → ℕ
index_of (usage.Words text) = 0
index_of usage.Level = 1
index_of usage.Kind = 2
index_of usage.NeedsVersion = 3
index_of usage.Memory = 4

-- the number of the reason that a refusal names; 0 if it is about the input, and 5 if it is no refusal
class_told : Fault → ℕ
class_told (fault.Usage u) = suc (index_of u)
class_told (fault.Encode e) = 0
class_told _ = 5

-- a correct refusal names the reason why the command line has no settings
class-is : (words : List Text) (given : List ℕ) (r : Fault) → IsRefusal words given r → (class_of (settings_for words) ≡ class_told r) × (class_told r < 5)
unfolding class_of class_told index_of
class-is words given r h = grind arith

-- a command line and an input that have a drawing are not refused
pub refusals-exclude : RefusalsExcludeDrawings
unfolding class_of class_told index_of
refusals-exclude words given d (fault.Encode encode.Empty) a h = search (arith, settings-one)
refusals-exclude words given d (fault.Encode encode.TooLong) a h =
    let same = settings-one words h.settings a.settings h.taken a.taken in
    not-too-long a.settings (held a.settings (input_for a.settings given)) a.holds.squares a.holds.symbols (subst (λ (s : SettingsView). IsTooLong s (held s (input_for s given))) same h.holds)
refusals-exclude words given d (fault.Encode encode.TooMany) a h = grind (arith, settings-one)
refusals-exclude words given d (fault.Encode encode.Memory) a h = elim h [ ]
refusals-exclude words given d r a h = search (arith, class-is, class_of)

-- ---- one reason

-- an error is not equal to settings
err-ok : (r : Reason) (s : SettingsView) → Err r ≡ Ok s → ⊥
err-ok r s e = cc

-- a property of all settings with a level and a type holds of the checked settings too
checked-have : (P : SettingsView → Type 0) (l : Option Level) (k : Option Drawing) (f : Level → Drawing → SettingsView) → ((l : Level) (k : Drawing) → P (f l k))
    → (s : SettingsView) → option_map_or (λ l. option_map_or (λ k. checked_series (f l k)) k (Err unknown_type)) l (Err unknown_level) ≡ Ok s → P s
checked-have P l k f h s e = grind (arith, err-ok)

-- a property of all settings with a level and a type holds of the settings of a command line
pub taken-have : (P : SettingsView → Type 0) (well : Bool) (rows : List Row) → ((l : Level) (k : Drawing) → P (settings_with rows l k))
    → (s : SettingsView) → cond well (settings_of rows) (Err refused_by_clap) ≡ Ok s → P s
taken-have P true rows h s e = checked-have P (option_map_or level_named (first_of (codes "level") rows) (Some level.L)) (option_and_then drawing_named (first_of (codes "type") rows)) (settings_with rows) h s e
taken-have P false rows h s e = absurd (err-ok refused_by_clap s e)

-- the smallest version of settings is at most 40
pub smallest-most : (words : List Text) (s : SettingsView) → settings_for words ≡ Ok s → smallest_of s ≤ 40
smallest-most words s e =
    taken-have (λ s. smallest_of s ≤ 40) (length (faults_for words) == 0) (rows_for words) (search (arith, leb-true)) s e

-- an empty input fits each version, so it is never too long
empty-not-long : (words : List Text) (s : SettingsView) (input : List ℕ) → settings_for words ≡ Ok s → input ≡ [] → IsTooLong s input → ⊥
empty-not-long words s input taken none long =
    long.1 (smallest_of s) (omega arith) (smallest-most words s taken) (subst (λ (x : List ℕ). FitsVersion (smallest_of s) s.level (rule_for s) Default x) (sym none) (empty-fits Default (smallest_of s) (rule_for s) _))

-- so an empty input is never too long for a series
empty-not-many : (s : SettingsView) (input : List ℕ) → input ≡ [] → IsTooMany s input → ⊥
empty-not-many s input none many =
    many.1.too_long (subst (λ (x : List ℕ). FitsVersion (smallest_of s) s.level (rule_for s) Default x) (sym none) (empty-fits Default (smallest_of s) (rule_for s) _))

-- settings do not ask for both one symbol and a series
long-not-many : (s : SettingsView) (x y : List ℕ) → IsTooLong s x → IsTooMany s y → ⊥
long-not-many s x y long many = cc

-- two refusals of an input are about the same settings
because-one : (words : List Text) (given : List ℕ) (P Q : SettingsView → List ℕ → Type 0) → HasRefusal words given P → HasRefusal words given Q
    → (s : SettingsView) × (settings_for words ≡ Ok s) × P s (held s (input_for s given)) × Q s (held s (input_for s given))
because-one words given P Q h k = search (arith, settings-one)

-- for a command line and an input at most one refusal is correct
pub refusals-one : RefusalsAreOne
unfolding class_told index_of
refusals-one words given (fault.Encode encode.Memory) q h k = elim h [ ]
refusals-one words given r (fault.Encode encode.Memory) h k = elim k [ ]
refusals-one words given (fault.Usage (usage.Words text)) (fault.Usage (usage.Words other)) h k = tt
refusals-one words given (fault.Usage usage.Level) (fault.Usage usage.Level) h k = refl
refusals-one words given (fault.Usage usage.Kind) (fault.Usage usage.Kind) h k = refl
refusals-one words given (fault.Usage usage.NeedsVersion) (fault.Usage usage.NeedsVersion) h k = refl
refusals-one words given (fault.Encode encode.Empty) (fault.Encode encode.Empty) h k = refl
refusals-one words given (fault.Encode encode.TooLong) (fault.Encode encode.TooLong) h k = refl
refusals-one words given (fault.Encode encode.TooMany) (fault.Encode encode.TooMany) h k = refl
refusals-one words given (fault.Encode encode.Empty) (fault.Encode encode.TooLong) h k = let w = because-one words given (λ s x. x ≡ []) IsTooLong h k in absurd (empty-not-long words w.0 _ w.1 w.2 w.3)
refusals-one words given (fault.Encode encode.TooLong) (fault.Encode encode.Empty) h k = let w = because-one words given IsTooLong (λ s x. x ≡ []) h k in absurd (empty-not-long words w.0 _ w.1 w.3 w.2)
refusals-one words given (fault.Encode encode.Empty) (fault.Encode encode.TooMany) h k = search (arith, because-one, empty-not-many)
refusals-one words given (fault.Encode encode.TooMany) (fault.Encode encode.Empty) h k = search (arith, because-one, empty-not-many)
refusals-one words given (fault.Encode encode.TooLong) (fault.Encode encode.TooMany) h k = search (arith, because-one, long-not-many)
refusals-one words given (fault.Encode encode.TooMany) (fault.Encode encode.TooLong) h k = search (arith, because-one, long-not-many)
refusals-one words given r q h k = search (arith, class-is)

-- ---- the drawing of a run that succeeds

-- the same, of a run with a certain outcome
of-outcome : (words : List Text) (in0 in1 : Reader) (out0 out1 err0 err1 : Writer) (outcome : Result (Unit {0}) Fault)
    → Runs words in0 in1 out0 out1 err0 err1 outcome 0
    → (given : List ℕ) × (drawing : List ℕ) × IsInputOf in0.remaining given × DrawnWhole true out0 out1 drawing × HasDrawing words given drawing
of-outcome words in0 in1 out0 out1 err0 err1 (Ok t) run = search arith
of-outcome words in0 in1 out0 out1 err0 err1 (Err f) run = absurd (omega (arith, run.status_is))

-- a run whose status is 0 has drawn the whole drawing
pub success-drawn : (words : List Text) (in0 in1 : Reader) (out0 out1 err0 err1 : Writer) → RunsTo words in0 in1 out0 out1 err0 err1 0
    → (given : List ℕ) × (drawing : List ℕ) × IsInputOf in0.remaining given × DrawnWhole true out0 out1 drawing × HasDrawing words given drawing
success-drawn words in0 in1 out0 out1 err0 err1 run = of-outcome words in0 in1 out0 out1 err0 err1 run.0 run.1
