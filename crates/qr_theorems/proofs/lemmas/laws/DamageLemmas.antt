-- A damaged symbol of an input is mended to the input.
use Rattle.qr_bits.specs.{Interpretation.MayWrite, Parsing.Content, declared.{interpretation.Interpretation.Interpretation, modes.Rule.Rule}}
use Rattle.{qr_bits.specs.declared.stream.Header.Header, qr_layout.specs.declared.level.Level.Level, qr_matrix.specs.Grid.Grid}
use Rattle.qr_mending.specs.declared.erasures.Changes.{Changes}
use Rattle.qr_mending.proofs.Facts.{mended-not-refused, mended-reading-one, wrong-one}
use Rattle.qr_mending.specs.Mending.{wrong_format_least, wrong_format_modules, wrong_modules, HasFormat, HasWrongModules, HoldsDamaged, IsDamagedForm, IsMendedReading, IsUnmended}
use Rattle.qr_mending.specs.declared.mending.Mended.{Mended}
use Rattle.qr_symbol.{proofs.Facts.symbol-parsed, specs.{Encoding.IsSymbolAt, Reading.interpreted_content, Symbol.grid_of, declared.fault.ReadFault.ReadFault}}
use Rattle.std.{proofs.Common.{◌≡◌, ℕ, ◌≤◌, List, arith}, specs.Prelude.{Option, Result, Ok, Err, IfOk, MatchResult}}
use Rattle.qr_symbol.specs.declared.fault.ReadFault.TheVariants as fault

-- a square that can be read with its damage mended is read so, unless memory is refused
pub symbol-mended-as : (unknown : Grid) (g : Grid) (v : ℕ) (l : Level) (mask : ℕ) (content : Content) (changed : List Changes) (r : Result Mended ReadFault) →
    IsMendedReading unknown g v l mask content changed →
    MatchResult r (λ m. IsMendedReading unknown g m.version m.level m.mask m.parsed m.changed.items) (IsUnmended unknown g) →
    MatchResult r (λ m. (m.version ≡ v) × (m.level ≡ l) × (m.mask ≡ mask) × (m.parsed ≡ content)) (λ e. e ≡ fault.Memory)
symbol-mended-as unknown g v l mask content changed (Ok m) h k =
    let w = mended-reading-one unknown g m.version v m.level l m.mask mask m.parsed content m.changed.items changed k
    h in
    (w.0, w.1, w.2, w.3)
symbol-mended-as unknown g v l mask content changed (Err e) h k = search (arith, mended-not-refused)

-- `g` is the symbol of the input `x`, and `h` a damaged form of it
module _ (unknown : Grid) (v : ℕ) (l : Level) (rule : Rule) (how : Interpretation) (x : List ℕ) (header : Option Header) (mask : ℕ)
    (g h : Grid) (changed : List Changes) (least : 1 ≤ v) (most : v ≤ 40) (may : MayWrite how x)
    (s : IsSymbolAt v l rule how x header mask g) (side : h.side ≡ g.side)
    (f : HasFormat unknown v h l mask)
    (d : HoldsDamaged unknown v l mask h s.message changed) where
  -- a damaged symbol of an input is a damaged form of its message
  symbol-form : IsDamagedForm unknown h v l mask s.message changed
  symbol-form = search arith

  -- a damaged symbol of an input can be read with its damage mended, as the input
  pub symbol-mended : IsMendedReading unknown h v l mask (interpreted_content how header s.segments x) changed
  symbol-mended = search (arith, symbol-form, symbol-parsed)

  -- the same, with the numbers of changed codewords and wrong modules
  pub symbol-counted : (r : Result Mended ReadFault) →
      MatchResult r (λ m. IsMendedReading unknown h m.version m.level m.mask m.parsed m.changed.items) (IsUnmended unknown h) →
      IfOk r (λ m. m.wrong_format_modules ≡ wrong_format_modules unknown h m.level m.mask) →
      IfOk r (λ m. m.wrong_format_least ≡ wrong_format_least unknown h m.level m.mask) →
      IfOk r (λ m. HasWrongModules unknown h m.version m.level m.mask m.changed.items m.wrong_modules) →
      MatchResult r (λ m. (m.version ≡ v) × (m.level ≡ l) × (m.mask ≡ mask)
      × (m.parsed ≡ interpreted_content how header s.segments x) × (m.changed.items ≡ changed)
      × (m.wrong_modules ≡ wrong_modules unknown h g) × (m.wrong_format_modules ≡ wrong_format_modules unknown h l mask)
      × (m.wrong_format_least ≡ wrong_format_least unknown h l mask)) (λ e. e ≡ fault.Memory)
  symbol-counted (Ok m) k format fewer modules =
      let w = mended-reading-one unknown h m.version v m.level l m.mask mask m.parsed _ m.changed.items changed k
      symbol-mended in
      let drawn : HasWrongModules unknown h v l mask changed
      (wrong_modules unknown h (grid_of v l mask s.codewords)) = record {
        message = s.message;
        form = symbol-form;
        differs = search arith;
      } in
      let wrong = wrong-one unknown h m.version v m.level l m.mask mask m.changed.items changed m.wrong_modules _
      modules drawn in
      search arith
  symbol-counted (Err e) k format fewer modules = mended-not-refused unknown h v l mask _ changed e symbol-mended k
