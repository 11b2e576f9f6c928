-- What a run of the command draws, and what it does to its reader, standard output and standard error. `words` are the
-- arguments, of which the first is the program's name. `s` are the settings, and `given` the bytes that the reader
-- returned. A device is `old` before the run and `new` after it. Where all three devices occur, they are `in0`, `out0`
-- and `err0` before the run, and `in1`, `out1` and `err1` after it. What is said of a device's counts holds if they
-- were 0 before the run.
use Rattle.std.specs.Prelude.{◌≡◌, ◌↔◌, ◌≤◌, ◌<◌, ◌+◌, ◌⊎◌, ℕ, List, [], length, take, max, None, IfErr, IsErrOf, IsTrue, MatchResult, Result, Ok, Err, is_ok, Bool, true, false, if◌then◌else◌}
use Rattle.std.specs.Option.{option_map_or}
use Rattle.std.specs.Io.KnownBytes.{Appends, Consumes}
use Rattle.clap.specs.Walk.{Text}
use Rattle.qr_bits.specs.declared.modes.TheConstants.{INPUT_MAX}
use Rattle.qr_bits.specs.Folding.{folded}
use Rattle.qr_matrix.specs.Grid.{Grid}
use Rattle.qr_symbol.specs.Joining.{IsJoined}
use Rattle.qr_devices.specs.declared.pen.TheConstants.{WRITE_MAX}
use Rattle.qr_devices.specs.Device.{AppendsBeginning, IsWrittenWithin, Reader, Writer, counted, is_read_fault, is_write_fault, no_reads, no_writes}
use Rattle.qr_drawing.specs.Drawing.{drawn}
use Rattle.qrencode_cli.specs.Fault.{fault_line}
use Rattle.qrencode_cli.specs.Input.{IsInputOf, IsReadWithin}
use Rattle.qrencode_settings.specs.Settings.{IsUsageFault, SettingsView, settings_for}
use Rattle.qrencode_cli.specs.Symbols.{AreSymbols, IsTooLong, IsTooMany, rule_for}
use Rattle.qrencode_cli.specs.declared.fault.Fault.{Fault}
use Rattle.qrencode_cli.specs.declared.fault.Fault.TheVariants as fault
use Rattle.qrencode_settings.specs.declared.settings.UsageFault.TheVariants as usage
use Rattle.qr_symbol.specs.declared.fault.EncodeFault.TheVariants as encode

-- The input of a run. If there is a string among the arguments, it is this string, or the first `INPUT_MAX` bytes of a
-- longer one. Otherwise it is what the reader returned [own]
abbrev pub input_for : SettingsView → List ℕ → List ℕ
input_for s given = option_map_or (λ text. take INPUT_MAX text) s.string given

-- The bytes that the symbols contain. Without -i they are the input itself. With -i they are the input with capitals in
-- place of small letters. If -k is also given, kanji pairs stay unchanged, and if -8 is also given, all bytes do [own]
abbrev pub held : SettingsView → List ℕ → List ℕ
held s input = if s.fold then folded (rule_for s) input else input

-- `drawing` is the drawing of symbols that the settings ask for. If these symbols are read and joined, they yield
-- `input`. `input` is not empty and has fewer than `INPUT_MAX` bytes, so nothing was cut off [own]
pub record IsDrawing (s : SettingsView) (input drawing : List ℕ) : Type 0 where
  pub squares : List Grid
  pub symbols : AreSymbols s input squares
  pub joined : IsJoined squares input
  pub some : 0 < length input
  pub short : length input < INPUT_MAX
  pub is_drawn : drawing ≡ drawn s.kind s.margin squares

-- The arguments are accepted, and their settings have the property `P` [own]
pub record HasSettingsWith (words : List Text) (P : SettingsView → Type 0) : Type 0 where
  pub settings : SettingsView
  pub taken : settings_for words ≡ Ok settings
  pub holds : P settings

-- `drawing` is what the arguments ask for, if `given` are the bytes that the reader returned [own]
abbrev pub HasDrawing : List Text → List ℕ → List ℕ → Type 0
HasDrawing words given drawing = HasSettingsWith words (λ s. IsDrawing s (held s (input_for s given)) drawing)

-- The arguments are accepted, but there is no drawing, because the reason `why` holds of the settings and of the bytes
-- that the symbols would contain [own]
abbrev pub HasRefusal : List Text → List ℕ → (SettingsView → List ℕ → Type 0) → Type 0
HasRefusal words given why = HasSettingsWith words (λ s. why s (held s (input_for s given)))

-- The fault is a correct reason to refuse the arguments or the input. A fault of a device and lack of memory are no
-- refusals [own]
abbrev pub IsRefusal : List Text → List ℕ → Fault → Type 0
IsRefusal words given (fault.Usage usage.Memory) = ⊥
IsRefusal words given (fault.Usage f) = IsUsageFault (settings_for words) f
IsRefusal words given (fault.Encode encode.Empty) = HasRefusal words given (λ s input. input ≡ [])
IsRefusal words given (fault.Encode encode.TooLong) = HasRefusal words given IsTooLong
IsRefusal words given (fault.Encode encode.TooMany) = HasRefusal words given IsTooMany
IsRefusal words given _ = ⊥

-- The run has to read its input, since the arguments are accepted and there is no string among them [own]
abbrev pub ReadsInput : List Text → Type 0
ReadsInput words = HasSettingsWith words (λ s. s.string ≡ None)

-- The fault can occur in a run with these arguments and bytes. A read fault can occur if the input has to be read, a
-- write fault if there is a drawing, and lack of memory always. A refusal can occur only if its reason holds of the
-- arguments or the bytes [own]
abbrev pub IsFault : List Text → List ℕ → Fault → Type 0
IsFault words given fault.Read = ReadsInput words
IsFault words given fault.Memory = Unit {0}
IsFault words given fault.Write = (drawing : List ℕ) × HasDrawing words given drawing
IsFault words given refusal = IsRefusal words given refusal

-- The writer received the whole drawing, and was flushed once. The flush succeeded if `settled` is true, and failed
-- otherwise [own]
pub record DrawnWhole (settled : Bool) (old new : Writer) (drawing : List ℕ) : Type 0 where
  pub grows : Appends old.taken new.taken drawing
  pub many : old.counts ≡ no_writes → new.counts.taken ≡ counted (length drawing)
  pub flushed : new.counts.flushes ≡ counted (old.counts.flushes + 1)
  pub ended : new.counts.settled ≡ settled

-- Either the writer received a prefix of the drawing, and was not flushed, or it received the whole drawing, and its
-- one flush failed [own]
abbrev pub DrawnInPart : Writer → Writer → List ℕ → Type 0
DrawnInPart old new drawing =
    (AppendsBeginning old.taken new.taken drawing × (new.counts.flushes ≡ old.counts.flushes)
    × (old.counts ≡ no_writes → new.counts.taken ≤ counted (length drawing)))
    ⊎ DrawnWhole false old new drawing

-- What happened to standard output. If the run succeeded, standard output received the whole drawing. If there was a
-- write fault, it received a prefix of the drawing, or all of it. After any other fault it is unchanged [own]
abbrev pub OutputHolds : List Text → List ℕ → Writer → Writer → {T : Type 0} → Result T Fault → Type 0
OutputHolds words given old new (Ok t) = (drawing : List ℕ) × HasDrawing words given drawing × DrawnWhole true old new drawing
OutputHolds words given old new (Err fault.Write) = (drawing : List ℕ) × HasDrawing words given drawing × DrawnInPart old new drawing
OutputHolds words given old new _ = new ≡ old

-- The reader returned exactly the bytes `given`, and has either reached its end or returned `INPUT_MAX` bytes [own]
abbrev pub AllRead : Reader → Reader → List ℕ → Type 0
AllRead old new given = Consumes old.remaining new.remaining given
    × (old.counts ≡ no_reads → new.counts.given ≡ length given)
    × (old.counts ≡ no_reads → (new.counts.ends ≡ 1) ⊎ (length given ≡ INPUT_MAX))

-- The reader is unchanged if the run did not have to read it. Otherwise the reader was read to its end or to
-- `INPUT_MAX` bytes, unless the run ended with a read fault or lack of memory [own]
pub record InputConsumed {T : Type 0} (words : List Text) (old new : Reader) (given : List ℕ) (outcome : Result T Fault) : Type 0 where
  pub unread : (ReadsInput words → ⊥) → new ≡ old
  pub read : ReadsInput words → AllRead old new given ⊎ IsErrOf outcome fault.Read ⊎ IsErrOf outcome fault.Memory

-- Standard error received the line that tells the fault, or a prefix of this line if a write failed. So it received at
-- most as many bytes as the line has. It was not flushed [own]
abbrev pub ErrorHolds : Writer → Writer → List ℕ → Type 0
ErrorHolds old new line = AppendsBeginning old.taken new.taken line
    × (old.counts ≡ no_writes → new.counts.taken ≤ counted (length line))
    × (old.counts ≡ no_writes → is_write_fault new.counts ≡ false → Appends old.taken new.taken line)
    × (old.counts ≡ no_writes → is_write_fault new.counts ≡ false → new.counts.taken ≡ counted (length line))
    × (new.counts.flushes ≡ old.counts.flushes)

-- A run with these arguments can end with this outcome (success or a fault) and this exit status (0 or 1), and can
-- change the three devices in this way. The arguments and the input decide everything but lack of memory and faults of
-- devices. Whether a device had a fault can be seen from its counts [own]
pub record Runs (words : List Text) (in0 in1 : Reader) (out0 out1 err0 err1 : Writer) (outcome : Result (Unit {0}) Fault) (status : ℕ) : Type 0 where
  pub given : List ℕ
  pub is_input : IsInputOf in0.remaining given
  pub is_fault : IfErr outcome (IsFault words given)
  pub shows : OutputHolds words given out0 out1 outcome
  pub reads : InputConsumed words in0 in1 given outcome
  pub tells : MatchResult outcome (λ _. err1 ≡ err0) (λ f. ErrorHolds err0 err1 (fault_line f))
  pub status_is : status ≡ (if is_ok outcome then 0 else 1)
  pub read_fault : in0.counts ≡ no_reads → IsErrOf outcome fault.Read ↔ IsTrue (is_read_fault in1.counts)
  pub write_fault : out0.counts ≡ no_writes → IsErrOf outcome fault.Write ↔ IsTrue (is_write_fault out1.counts)
  pub input_within : in0.counts ≡ no_reads → IsReadWithin in1.counts
  pub out_within : out0.counts ≡ no_writes → IsWrittenWithin out1.counts
  pub err_within : err0.counts ≡ no_writes → IsWrittenWithin err1.counts
  pub offered : out1.counts.offered ≤ max out0.counts.offered WRITE_MAX

-- With some outcome, a run with these arguments can end with this exit status, and can change the three devices in this
-- way [own]
abbrev pub RunsTo : List Text → Reader → Reader → Writer → Writer → Writer → Writer → ℕ → Type 0
RunsTo words in0 in1 out0 out1 err0 err1 status =
    (outcome : Result (Unit {0}) Fault) × Runs words in0 in1 out0 out1 err0 err1 outcome status
