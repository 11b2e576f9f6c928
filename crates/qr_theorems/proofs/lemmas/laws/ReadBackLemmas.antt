-- The drawing that a run writes shows its input.
use Rattle.clap.specs.{Walk.Text, Words.one_of}
use Rattle.{qr_bits.specs.declared.interpretation.Interpretation.TheVariants.Default}
use Rattle.{qr_drawing.specs.{Drawing.drawn}, qr_matrix.specs.Grid.Grid}
use Rattle.qr_parsing.{proofs.Facts.{one-drawing, series-drawing, symbol-drawing}, specs.Parsing.IsDrawingOf}
use Rattle.qrencode_cli.{proofs.Facts.{smallest-most, success-drawn, taken-have}, specs.{Command.{HasDrawing, HasSettingsWith, IsDrawing, held, input_for}, Symbols.{AreSymbols, rule_for, smallest_of}}}
use Rattle.qrencode_settings.specs.{Arguments.{faults_for, rows_for}, Settings.{SettingsView, number_or, settings_for}}
use Rattle.qr_theorems.specs.Laws.{OutputsReadBack, ShowsInput}
use Rattle.std.proofs.Common.{◌≡◌, ◌≤◌, ◌==◌, inl, inr, ℕ, List, length, Option, Ok, codes, sym, subst, arith}
use Rattle.std.proofs.lemmas.Bool.Decides.{nat_tests}

-- a number of an option is at most 255
number-most : (o : Option Text) → number_or 4 o ≤ 255
number-most o = grind (arith, nat_tests)

-- the margin of settings is at most 255
margin-most : (words : List Text) (s : SettingsView) → settings_for words ≡ Ok s → s.margin ≤ 255
margin-most words s e =
    taken-have (λ s. s.margin ≤ 255) (length (faults_for words) == 0) (rows_for words) (λ l k. number-most (one_of (codes "margin") (rows_for words))) s e

-- the smallest version of settings is at least 1
smallest-least : (words : List Text) (s : SettingsView) → settings_for words ≡ Ok s → 1 ≤ smallest_of s
smallest-least words s e =
    taken-have (λ s. 1 ≤ smallest_of s) (length (faults_for words) == 0) (rows_for words) (search arith) s e

-- the squares that the settings ask for have a drawing that can be parsed
asked-drawing : (s : SettingsView) (input : List ℕ) (squares : List Grid) → s.margin ≤ 255 → 1 ≤ smallest_of s → smallest_of s ≤ 40 → AreSymbols s input squares
    → IsDrawingOf s.kind s.margin squares (drawn s.kind s.margin squares)
asked-drawing s input squares m least most (inl h) =
    subst (λ g. IsDrawingOf s.kind s.margin g (drawn s.kind s.margin g)) (sym h.3) (series-drawing s.kind s.margin (smallest_of s) s.level (rule_for s) Default input h.1 m least most h.2)
asked-drawing s input squares m least most (inr h) =
    subst (λ g. IsDrawingOf s.kind s.margin g (drawn s.kind s.margin g)) (sym h.5) (symbol-drawing s.kind s.margin (smallest_of s) s.level (rule_for s) Default input h.1 h.2 h.3 m least h.4)

-- the drawing that the settings ask for shows the input, and nothing else
shows-input : (words : List Text) (s : SettingsView) (input drawing : List ℕ) → settings_for words ≡ Ok s → IsDrawing s input drawing → ShowsInput s input drawing
shows-input words s input drawing taken h =
    let asked : IsDrawingOf s.kind s.margin h.squares drawing =
    subst (IsDrawingOf s.kind s.margin h.squares) (sym h.is_drawn) (asked-drawing s input h.squares (margin-most words s taken) (smallest-least words s taken) (smallest-most words s taken) h.symbols) in
    record {
      squares = h.squares;
      symbols = h.symbols;
      joined = h.joined;
      shown = asked;
      only = λ kind margin others other. one-drawing kind s.kind margin s.margin others h.squares drawing other asked;
    }

-- if a command line and an input have a drawing, it shows the input
drawing-shows : (words : List Text) (given drawing : List ℕ) → HasDrawing words given drawing
    → HasSettingsWith words (λ s. ShowsInput s (held s (input_for s given)) drawing)
drawing-shows words given drawing h = record {
  settings = h.settings;
  taken = h.taken;
  holds = shows-input words h.settings _ drawing h.taken h.holds;
}

pub outputs-read-back : OutputsReadBack
outputs-read-back words in0 in1 out0 out1 err0 err1 run =
    let w = success-drawn words in0 in1 out0 out1 err0 err1 run in (w.0, w.1, w.2, w.3, drawing-shows words w.0 w.1 w.4)
