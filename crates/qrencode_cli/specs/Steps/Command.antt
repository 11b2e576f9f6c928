-- What each step of a run can return. `words` are the arguments, and `s` the settings. A drawing job has what is needed
-- for a drawing: its type, its margin and the symbols. A device is `old` before the step and `new` after it. In
-- `Attempts` the reader is `in0` before and `in1` after, and the writer is `out0` before and `out1` after. What is said
-- of a device's counts holds if they were 0 before the step.
use Rattle.std.specs.Prelude.{◌≡◌, ◌<◌, ◌≤◌, ◌↔◌, ◌⊎◌, ℕ, List, [], false, length, max, IfErr, IsErrOf, IsTrue, OnOk, Result, Ok, Err, MatchResult, true}
use Rattle.clap.specs.Walk.{Text}
use Rattle.qrencode_cli.specs.Command.{AllRead, DrawnInPart, DrawnWhole, HasDrawing, InputConsumed, IsDrawing, IsFault}
use Rattle.qr_devices.specs.Device.{IsWrittenWithin, Reader, Writer, is_read_fault, is_write_fault, no_reads, no_writes}
use Rattle.qr_bits.specs.declared.modes.TheConstants.{INPUT_MAX}
use Rattle.qr_symbol.specs.declared.symbol.Symbol.{Symbol}
use Rattle.qr_symbol.specs.Joining.{IsJoined}
use Rattle.qr_symbol.specs.Series.{squares_of}
use Rattle.qr_drawing.specs.Drawing.{HaveOneSide, drawn}
use Rattle.qr_devices.specs.declared.pen.TheConstants.{WRITE_MAX}
use Rattle.qrencode_cli.specs.Input.{IsInputOf, IsReadWithin}
use Rattle.qrencode_settings.specs.Settings.{SettingsView}
use Rattle.qrencode_cli.specs.Symbols.{AreSymbols, IsTooLong, IsTooMany}
use Rattle.qrencode_cli.specs.declared.fault.Fault.{Fault}
use Rattle.qrencode_cli.specs.declared.fault.Fault.TheVariants.{Encode, Memory, Read, Write}
use Rattle.qr_symbol.specs.declared.fault.EncodeFault.TheVariants.{Empty, TooLong, TooMany}
use Rattle.qrencode_cli.specs.declared.drawing_job.DrawingJob.{DrawingJob}

-- The reader had no fault and returned the input: all its bytes, or the first `INPUT_MAX` if it has more
pub record HasRead (old new : Reader) (input : List ℕ) : Type 0 where
  pub is_input : IsInputOf old.remaining input
  pub short : length input ≤ INPUT_MAX
  pub all : AllRead old new input
  pub well : old.counts ≡ no_reads → is_read_fault new.counts ≡ false
  pub within : old.counts ≡ no_reads → IsReadWithin new.counts

-- `f` ended the reading before the input was complete. It is a fault of the reader, which the reader's counts show, or
-- lack of memory
pub record StopsReading (old new : Reader) (f : Fault) : Type 0 where
  pub only : (f ≡ Read) ⊎ (f ≡ Memory)
  pub read_fault : old.counts ≡ no_reads → (f ≡ Read) ↔ IsTrue (is_read_fault new.counts)
  pub within : old.counts ≡ no_reads → IsReadWithin new.counts

-- The drawing of the job's symbols, which the job writes if no write fails
abbrev pub drawing_of_job : DrawingJob → List ℕ
drawing_of_job job = drawn job.kind job.margin (squares_of job.symbols.items)

-- The settings ask for these symbols of `input`. If the symbols are read and joined, they yield `input`. `input` is not
-- empty and has fewer than `INPUT_MAX` bytes, so nothing was cut off. The symbols can be drawn: there are 1 to 16, and
-- all have the same side
pub record AreDrawnFor (s : SettingsView) (input : List ℕ) (symbols : List Symbol) : Type 0 where
  pub asked : AreSymbols s input (squares_of symbols)
  pub joined : IsJoined (squares_of symbols) input
  pub nonempty : 0 < length input
  pub short : length input < INPUT_MAX
  pub some : 0 < length symbols
  pub few : length symbols ≤ 16
  pub one_side : HaveOneSide (squares_of symbols)

-- The fault is lack of memory, or a correct reason why `input` has no drawing: it is empty, it is too long for one
-- symbol, or its series would have too many symbols
abbrev pub IsInputFault : SettingsView → List ℕ → Fault → Type 0
IsInputFault s input (Encode Empty) = input ≡ []
IsInputFault s input (Encode TooLong) = IsTooLong s input
IsInputFault s input (Encode TooMany) = IsTooMany s input
IsInputFault s input Memory = Unit {0}
IsInputFault s input _ = ⊥

-- The result is the drawing job of `input`, or a fault. The fault is lack of memory, or a correct reason why `input`
-- has no drawing
abbrev pub IsJobFor : SettingsView → List ℕ → Result DrawingJob Fault → Type 0
IsJobFor s input result = MatchResult result (λ p. IsDrawing s input (drawing_of_job p)) (IsInputFault s input)

-- The fault is not one of the writer, and so occurs before any byte of the drawing is written
abbrev pub IsEarly : Fault → Type 0
IsEarly Write = ⊥
IsEarly _ = Unit {0}

-- The result is a drawing job, or a fault. The drawing of the job (`drawing_of_job`) is the one that the arguments ask
-- for, if `given` are the bytes that the reader returned. The fault can occur with these arguments and bytes, before
-- any byte of a drawing is written
abbrev pub IsJobGiven : List Text → List ℕ → Result DrawingJob Fault → Type 0
IsJobGiven words given result =
    MatchResult result (λ p. HasDrawing words given (drawing_of_job p)) (λ f. IsFault words given f × IsEarly f)

-- The input is read, unless it is among the arguments, and the drawing job is made. The result is this job, or a
-- fault that can occur before any byte of the drawing is written
pub record Prepares (words : List Text) (old new : Reader) (result : Result DrawingJob Fault) : Type 0 where
  pub given : List ℕ
  pub is_input : IsInputOf old.remaining given
  pub reads : InputConsumed words old new given result
  pub answer : IsJobGiven words given result
  pub read_fault : old.counts ≡ no_reads → IsErrOf result Read ↔ IsTrue (is_read_fault new.counts)
  pub within : old.counts ≡ no_reads → IsReadWithin new.counts

-- The last step of a run writes the drawing and flushes the writer. If this step succeeded, the whole drawing was
-- written, and the writer was flushed. Otherwise the result is a fault of the writer, and a prefix of the drawing was
-- written, or all of it. No write offered more than `WRITE_MAX` bytes
pub record Draws (old new : Writer) (drawing : List ℕ) (result : Result (Unit {0}) Fault) : Type 0 where
  pub ok : OnOk result (DrawnWhole true old new drawing)
  pub err : IfErr result (λ f. (f ≡ Write) × DrawnInPart old new drawing)
  pub fault : old.counts ≡ no_writes → IsErrOf result Write ↔ IsTrue (is_write_fault new.counts)
  pub within : old.counts ≡ no_writes → IsWrittenWithin new.counts
  pub offered : new.counts.offered ≤ max old.counts.offered WRITE_MAX

-- The result of a run before it tells a fault on standard error. There are two cases. A drawing job was made, and the
-- result is that of writing the job's drawing. Or no drawing job was made because of a fault; then the result is this
-- fault, and nothing was written
abbrev pub Attempts : List Text → Reader → Reader → Writer → Writer → Result (Unit {0}) Fault → Type 0
Attempts words in0 in1 out0 out1 result =
    ((job : DrawingJob) × Prepares words in0 in1 (Ok job) × Draws out0 out1 (drawing_of_job job) result)
    ⊎ ((f : Fault) × (result ≡ Err f) × Prepares words in0 in1 (Err f) × (out1 ≡ out0))
