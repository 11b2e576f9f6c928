-- The drawing that a command line and an input ask for, or the fault that occurs before any byte is written.
use Rattle.std.{proofs.lemmas.{Grind.common_steps, Bool.{cases_lt, false≢true}, List.{take_min, Elements.{All-cons, All-head, All-nil}}}, specs.List.All}
use Rattle.qr_bits.specs.{declared.{interpretation.Interpretation.TheVariants.Default, modes.{TheConstants.INPUT_MAX, Rule.Rule}}, Parsing.plain_content}
use Rattle.std.proofs.Common.{◌≡◌, ◌≤◌, ℕ, true, false, List, [], ◌∷◌, take, Option, None, Some, Result, Ok, Err, refl, sym, min, length, append-nil, arith, inl, inr, ◌⊎◌}
use Rattle.qr_drawing.specs.Drawing.{HaveOneSide}
use Rattle.{clap.specs.Walk.Text, qr_matrix.specs.Grid.Grid}
use Rattle.{qr_layout.specs.Version.side_of, qr_devices.specs.Device.Reader}
use Rattle.qr_symbol.specs.declared.{fault.EncodeFault.EncodeFault, symbol.Symbol.Symbol}
use Rattle.qr_symbol.specs.declared.fault.EncodeFault.TheVariants as encode
use Rattle.qr_symbol.specs.{Joining.AreReadBy, Joining.IsJoined, Reading.IsReadBack, Series.IsSeries, Series.squares_of, Encoding.IsSymbol, VersionChoice.HasNoVersion}
use Rattle.qr_symbol.proofs.Facts.{long-has-no-series, series-few, series-side, series-some, version-short}
use Rattle.{qrencode_cli.specs.Command.{HasSettingsWith, ReadsInput, held, input_for}, qrencode_settings.specs.Settings.{IsUsageFault, Reason, SettingsView, settings_for}}
use Rattle.qrencode_cli.specs.Steps.Command.{AreDrawnFor, HasRead, IsInputFault, IsJobFor, IsJobGiven, Prepares, StopsReading}
use Rattle.qrencode_cli.specs.{Symbols.{rule_for, smallest_of}, declared.fault.Fault.Fault, Steps.Fault.{fault_of_input, fault_of_words}, Input.IsInputOf}
use Rattle.{qrencode_cli.specs.declared.drawing_job.DrawingJob.DrawingJob, qrencode_settings.specs.declared.settings.UsageFault.UsageFault}
use Rattle.qrencode_cli.specs.declared.fault.Fault.TheVariants as fault
use Rattle.qrencode_settings.specs.declared.settings.UsageFault.TheVariants as usage

-- there is always an input that the reader may return
any-input : (remaining : Option (List ℕ)) → (given : List ℕ) × IsInputOf remaining given
any-input None = ([], tt)
any-input (Some xs) = (take INPUT_MAX xs, refl)

-- if the command line contains a string, the input is this string, cut after `INPUT_MAX` bytes
input_for-string : (s : SettingsView) (text given buf : List ℕ) (n : ℕ) → s.string ≡ Some text → buf ≡ text
    → n ≡ min INPUT_MAX (length buf) → input_for s given ≡ take n buf
input_for-string s text given buf n e is cut = cc (take_min INPUT_MAX text)

-- if a symbol is read as the input, joining it alone has the input as its result
joined-one : (input : List ℕ) (v : ℕ) (b : Rule) (g : Grid) → IsReadBack v b Default input g → IsJoined (g ∷ []) input
unfolding AreReadBy
joined-one input v b g h = record {
  contents = plain_content None h.0 input ∷ [];
  read = (h.3, tt);
  together = search arith;
  joined = sym (append-nil input);
}

-- squares that all have this side are of one side
one-side : (squares : List Grid) (side : ℕ) → All (λ g. g.side ≡ side) squares → HaveOneSide squares
one-side [] side h = All-nil (λ k. k.side ≡ 0)
one-side (g ∷ gs) side h = omega (arith, All-head)

-- if a single symbol is asked for, the symbol of the input is what the settings ask for
pub drawn-for-one : (s : SettingsView) (rule : Rule) (input : List ℕ) (version : ℕ) (symbol : Symbol) (symbols : List Symbol) → s.structured ≡ false → 1 ≤ version
    → version ≡ smallest_of s → rule ≡ rule_for s → (input ≡ [] → ⊥) → IsSymbol version s.level rule Default input symbol.version symbol.mask symbol.matrix
    → IsReadBack symbol.version rule Default input symbol.matrix → symbols ≡ symbol ∷ [] → AreDrawnFor s input symbols
drawn-for-one s rule input version symbol symbols one least e same some made read alone =
    let few : length input ≤ 7089 = version-short symbol.version s.level rule Default input (omega arith) made.version.most made.version.fits in
    rw alone (record {
      asked = search arith;
      joined = joined-one input symbol.version rule symbol.matrix read;
      nonempty = grind (arith, common_steps);
      short = omega arith;
      some = omega arith;
      few = omega arith;
      one_side = search (arith, All-cons, All-nil);
    })

-- if a single symbol is asked for, a fault of `encode` is a correct reason why the input has no drawing
pub told-one : (s : SettingsView) (input : List ℕ) (e : EncodeFault) → s.structured ≡ false → (e ≡ encode.Empty → input ≡ [])
    → (e ≡ encode.TooLong → HasNoVersion (smallest_of s) s.level (rule_for s) Default input)
    → (e ≡ encode.Empty) ⊎ ((e ≡ encode.TooLong) ⊎ (e ≡ encode.Memory)) → IsInputFault s input (fault_of_input e)
told-one s input encode.Empty one empty long only = empty refl
told-one s input encode.TooLong one empty long only = (one, long refl)
told-one s input encode.TooMany one empty long only = search arith
told-one s input encode.Memory one empty long only = tt

-- if a series is asked for, the series of the input is what the settings ask for
pub drawn-for-series : (s : SettingsView) (rule : Rule) (input : List ℕ) (version : ℕ) (symbols : List Symbol) →
    s.structured ≡ true → 1 ≤ version → version ≤ 40 → version ≡ smallest_of s → rule ≡ rule_for s →
    (input ≡ [] → ⊥) → IsSeries version s.level rule Default input symbols → IsJoined (squares_of symbols) input →
    AreDrawnFor s input symbols
drawn-for-series s rule input version symbols many least most e same some series joined = record {
  asked = inl (many, symbols, rw (← e, ← same) series, refl);
  joined = joined;
  nonempty = grind (arith, common_steps);
  short = elim (cases_lt (length input) INPUT_MAX) [
    | inl i ↦ i
    | inr i ↦ search (arith, long-has-no-series)
  ];
  some = search (arith, series-some);
  few = search (arith, series-few);
  one_side = one-side (squares_of symbols) (side_of version) (series-side input s.level rule Default version symbols series);
}

-- if the reader need not be read, or lack of memory ended the run before, it is correct that the reader is unchanged
unread : (words : List Text) (in0 : Reader) (r : Result DrawingJob Fault) → (ReadsInput words → r ≡ Err fault.Memory)
    → ((given : List ℕ) → IsJobGiven words given r) → Prepares words in0 in0 r
unread words in0 r memory answer = let i = any-input in0.remaining in record {
  given = i.0;
  is_input = i.1;
  reads = record { unread = λ _. refl; read = λ asked. inr (inr (memory asked)) };
  answer = answer i.0;
  read_fault = λ z. (λ e. let m = memory (rw e at (answer i.0)).0 in cc, λ t. absurd (false≢true (rw z at t)));
  within = λ z. rw z (search arith);
}

-- a result has one fault
pub same-fault : {T : Type 0} {r : Result T Fault} {f g : Fault} → r ≡ Err f → r ≡ Err g → f ≡ g
same-fault p q = cc

-- a command line without settings asks for no input
refused : {words : List Text} {why : Reason} {r : Result DrawingJob Fault} → settings_for words ≡ Err why →
    ReadsInput words → r ≡ Err fault.Memory
refused {why = why} e i = cc

-- every fault of the command line is a correct result
pub prepares-usage : (words : List Text) (in0 : Reader) (u : UsageFault) → IsUsageFault (settings_for words) u
    → Prepares words in0 in0 (Err (fault_of_words u))
prepares-usage words in0 (usage.Words text) h = unread words in0 _ (refused h) (λ _. (h, tt))
prepares-usage words in0 usage.Level h = unread words in0 _ (refused h) (λ _. (h, tt))
prepares-usage words in0 usage.Kind h = unread words in0 _ (refused h) (λ _. (h, tt))
prepares-usage words in0 usage.NeedsVersion h = unread words in0 _ (refused h) (λ _. (h, tt))
prepares-usage words in0 usage.Memory h = unread words in0 _ (λ _. refl) (λ _. (tt, tt))

module _ (words : List Text) (s : SettingsView) (taken : settings_for words ≡ Ok s) where
  -- settings with this property are those of the command line
  has : {P : SettingsView → Type 0} → P s → HasSettingsWith words P
  has h = record { settings = s; taken = taken; holds = h }

  -- a job that is correct for the bytes that the symbols contain is correct for the command line
  answer-for : (given input : List ℕ) (r : Result DrawingJob Fault) → input_for s given ≡ input
      → IsJobFor s (held s input) r → IsJobGiven words given r
  answer-for given input (Ok p) e h = has (rw e h)
  answer-for given input (Err (fault.Encode encode.Empty)) e h = (has (rw e h), tt)
  answer-for given input (Err (fault.Encode encode.TooLong)) e h = (has (rw e h), tt)
  answer-for given input (Err (fault.Encode encode.TooMany)) e h = (has (rw e h), tt)
  answer-for given input (Err fault.Memory) e h = (tt, tt)
  answer-for given input (Err _) e h = absurd h

  -- if the input is the string of the command line, its job is correct for the command line
  pub prepares-string : (in0 : Reader) (text buf : List ℕ) (n : ℕ) (r : Result DrawingJob Fault) →
      s.string ≡ Some text → buf ≡ text → n ≡ min INPUT_MAX (length buf) →
      IsJobFor s (held s (take n buf)) r → Prepares words in0 in0 r
  prepares-string in0 text buf n r string is cut h = unread words in0 r
      (λ i. cc)
      (λ given. answer-for given (take n buf) r (input_for-string s text given buf n string is cut) h)

  -- if the input is what the reader returned, its job is correct for the command line
  pub prepares-reader : (in0 in1 : Reader) (bytes buf : List ℕ) (r : Result DrawingJob Fault) → s.string ≡ None
      → buf ≡ bytes → HasRead in0 in1 bytes → IsJobFor s (held s buf) r → Prepares words in0 in1 r
  prepares-reader in0 in1 bytes buf r string is done h = record {
    given = bytes;
    is_input = done.is_input;
    reads = search (arith, unread, has);
    answer = answer-for bytes buf r (rw (string, is) refl) h;
    read_fault = search (arith, false≢true);
    within = done.within;
  }

  -- if the reader failed, or memory for the input was refused, this fault is correct for the command line
  pub prepares-unread : (in0 in1 : Reader) (f : Fault) → s.string ≡ None → StopsReading in0 in1 f → Prepares words in0 in1 (Err f)
  prepares-unread in0 in1 f string stops = let i = any-input in0.remaining in search (arith, unread, has, same-fault)
