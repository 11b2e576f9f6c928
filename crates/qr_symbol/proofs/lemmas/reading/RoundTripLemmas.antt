-- A symbol is read as its input.
use Rattle.qr_bits.{proofs.Facts.{data-again, least-meant, length-data}, specs.{Bits.bits_of, Interpretation.MayWrite, Parsing.{Content, parse}}}
use Rattle.qr_bits.specs.declared.{interpretation.Interpretation.Interpretation, modes.Rule.Rule, stream.Header.Header}
use Rattle.{qr_layout.specs.declared.{blocks.Blocks.Blocks, level.Level.Level}, qr_matrix.specs.Grid.Grid}
use Rattle.qr_symbol.proofs.lemmas.{interleaving.MessageLemmas.final-whole, reading.FormatLemmas.{format-one, format-read}}
use Rattle.qr_symbol.{proofs.lemmas.reading.ReadLemmas.{message-read, message-one}, specs.{Encoding.IsSymbolAt, Interleaving.{check_at, IsFinalMessage}}}
use Rattle.qr_symbol.specs.Reading.{interpreted_content, IsFormat, IsMessage, IsReading}
use Rattle.std.proofs.{Common.{◌≡◌, ℕ, ◌<◌, ◌≤◌, List, get_or, Ok, sym, ap, subst, ◌∙◌, arith}, Math.ListN.get_or-eq_default}
use Rattle.std.{proofs.lemmas.List.Elements.{All-append, All-map}, specs.{List.All, Prelude.Option}}

-- an item of a list of bytes, or 0 after its end, is a byte
byte-at : (xs : List ℕ) (k : ℕ) → All (λ x. x < 256) xs → get_or xs k 0 < 256
byte-at xs k a = search (arith, get_or-eq_default)

-- the final sequence of a message of bytes consists of bytes
final-bytes : (b : Blocks) (d cw : List ℕ) → All (λ x. x < 256) d → IsFinalMessage b d cw → All (λ x. x < 256) cw
final-bytes b d cw a h = subst (All (λ x. x < 256)) (sym h.whole) (All-append (λ x. x < 256) _ _
    (search (arith, All-map, byte-at))
    (All-map (λ x. x < 256) (check_at h.corrections) h.check_positions (λ k t l.
    let u = get_or _ k t in byte-at _ _ (h.each u.block (omega arith)).bytes)))

-- the symbol of an input contains its message
pub symbol-holds : (v : ℕ) (l : Level) (b : Rule) (how : Interpretation) (x : List ℕ) (h : Option Header) (mask : ℕ) (g : Grid) → 1 ≤ v → v ≤ 40 → (s : IsSymbolAt v l b how x h mask g) → IsMessage v l mask g s.message
symbol-holds v l b how x h mask g p q s =
    subst (λ (z : Grid). IsMessage v l mask z s.message) (sym s.drawn) (search (arith, message-read, final-whole, final-bytes, length-data))

-- a symbol has the format information of its level and mask
pub symbol-format : (v : ℕ) (l : Level) (b : Rule) (how : Interpretation) (x : List ℕ) (h : Option Header) (mask : ℕ) (g : Grid) → 1 ≤ v → v ≤ 40 → IsSymbolAt v l b how x h mask g → IsFormat g l mask
symbol-format v l b how x h mask g p q s = subst (λ (z : Grid). IsFormat z l mask) (sym s.drawn) (format-read v l _ _ p q s.best.in_range)

-- the data codewords of a symbol are parsed as its bytes, in its segments and after its header, with its interpretation
pub symbol-parsed : (v : ℕ) (l : Level) (b : Rule) (how : Interpretation) (x : List ℕ) (h : Option Header) (mask : ℕ) (g : Grid) → MayWrite how x
    → (s : IsSymbolAt v l b how x h mask g) → parse v (bits_of s.message) ≡ Ok (interpreted_content how h s.segments x)
symbol-parsed v l b how x h mask g w s = data-again v l _ _ h how _ s.written ∙ ap (λ (c : Content). Ok c) (least-meant how v b x _ _ h w s.chosen).0

-- the symbol of an input is read as its bytes, in its segments and after its header, with its interpretation
pub symbol-read : (v : ℕ) (l : Level) (b : Rule) (how : Interpretation) (x : List ℕ) (h : Option Header) (mask : ℕ) (g : Grid) → 1 ≤ v → v ≤ 40 → MayWrite how x
    → (s : IsSymbolAt v l b how x h mask g) → IsReading g (interpreted_content how h s.segments x)
symbol-read v l b how x h mask g p q w s = record {
  version = v;
  level = l;
  mask = mask;
  message = s.message;
  sized = search arith;
  format = symbol-format v l b how x h _ g p q s;
  holds = symbol-holds v l b how x h _ g p q s;
  parsed = symbol-parsed v l b how x h mask g w s;
}

-- a square is read as at most one content
pub reading-one : (g : Grid) (p q : Content) → IsReading g p → IsReading g q → p ≡ q
reading-one g p q h k =
    let vs : k.version ≡ h.version = omega arith in let w = format-one g _ _ _ _ k.format h.format in
    let m2 = subst (λ (l : Level). IsMessage h.version l k.mask g k.message) w.0 (subst (λ (v : ℕ). IsMessage v k.level k.mask g k.message) vs k.holds) in
    let same = message-one _ _ _ g _ _ h.sized.least h.sized.most h.holds (subst (λ (m : ℕ). IsMessage h.version h.level m g k.message) w.1 m2) in
    cc
