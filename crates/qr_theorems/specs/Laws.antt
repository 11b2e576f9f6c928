-- What the theorems state.
use Rattle.std.specs.Prelude.{◌≡◌, ℕ, List, true}
use Rattle.clap.specs.Walk.{Text}
use Rattle.qr_matrix.specs.Grid.{Grid}
use Rattle.qr_symbol.specs.Joining.{IsJoined}
use Rattle.qr_devices.specs.Device.{Reader, Writer}
use Rattle.qr_drawing.specs.declared.drawing.Drawing.{Drawing}
use Rattle.qr_parsing.specs.Parsing.{IsDrawingOf}
use Rattle.qrencode_cli.specs.Command.{DrawnWhole, HasSettingsWith, RunsTo, held, input_for}
use Rattle.qrencode_cli.specs.Input.{IsInputOf}
use Rattle.qrencode_settings.specs.Settings.{SettingsView}
use Rattle.qrencode_cli.specs.Symbols.{AreSymbols}

-- `drawing` is a drawing of the squares that the settings ask for. It is the drawing of no other type, margin or list
-- of squares. If these squares are read and joined, they yield the input [own]
pub record ShowsInput (s : SettingsView) (input drawing : List ℕ) : Type 0 where
  pub squares : List Grid
  pub symbols : AreSymbols s input squares
  pub joined : IsJoined squares input
  pub shown : IsDrawingOf s.kind s.margin squares drawing
  pub only : (kind : Drawing) (margin : ℕ) (others : List Grid) → IsDrawingOf kind margin others drawing
      → (kind ≡ s.kind) × (margin ≡ s.margin) × (others ≡ squares)

-- A run whose status is 0 wrote a drawing that shows its input, folded if `-i` is given: it can be read from this
-- drawing alone [own]
abbrev pub OutputsReadBack : Type 0
OutputsReadBack = (words : List Text) (in0 in1 : Reader) (out0 out1 err0 err1 : Writer)
    → RunsTo words in0 in1 out0 out1 err0 err1 0
    → (given : List ℕ) × (drawing : List ℕ) × IsInputOf in0.remaining given × DrawnWhole true out0 out1 drawing
    × HasSettingsWith words (λ s. ShowsInput s (held s (input_for s given)) drawing)
