-- Symbols can be read: no codeword is changed by mending, and no module is wrong.
use Rattle.std.proofs.Common.{◌≡◌, ◌∙◌, ◌↔◌, ℕ, ◌≤◌, true, false, List, [], ◌∷◌, ◌++◌, map, length, get_or, ap, arith, refl, subst, sym}
use Rattle.std.specs.Prelude.{Option, IfOk, Result, Ok, Err}
use Rattle.std.specs.List.{All}
use Rattle.std.proofs.lemmas.List.{length-replicate, get_or-replicate}
use Rattle.std.proofs.lemmas.List.Elements.{All-cons}
use lib.ListN.{replicate}
use Rattle.qr_field.proofs.lemmas.laws.DistanceLemmas.{difference-same}
use Rattle.qr_field.specs.Distance.{differences}
use Rattle.qr_bits.specs.{Interpretation.MayWrite, Parsing.Content}
use Rattle.qr_bits.specs.declared.{interpretation.Interpretation.Interpretation, modes.Rule.Rule, stream.Header.Header}
use Rattle.qr_layout.specs.{Blocks.{blocks_of, data_codewords_of, spare_of}, declared.level.Level.Level}
use Rattle.qr_matrix.proofs.Facts.{colour-square, square-same}
use Rattle.qr_matrix.specs.{Bytes.{byte_of}, Grid.{Grid, IsSquare, colour, light, square}}
use Rattle.qr_mending.proofs.Facts.{final-in-blocks, light-mended, unerased}
use Rattle.qr_mending.specs.Mending.{HasWrongModules, IsDamagedForm, IsMendedReading, wrong_modules}
use Rattle.qr_mending.specs.Message.{IsMendedIn, no_changes}
use Rattle.qr_mending.specs.declared.erasures.Changes.{Changes}
use Rattle.qr_symbol.proofs.Facts.{data-sizes-whole, symbol-format, symbol-holds, symbol-parsed}
use Rattle.qr_symbol.specs.Encoding.{IsSymbolAt}
use Rattle.qr_symbol.specs.Interleaving.{IsInterleaved, block_count, blocks_in, codeword_count, data_sizes, part_of}
use Rattle.qr_symbol.specs.Reading.{IsRead, IsReading, interpreted_content}
use Rattle.qr_symbol.specs.Symbol.{colour_of, grid_of}
use Rattle.qr_sampling.specs.declared.picture.Picture.{Picture}
use Rattle.qr_scanning.specs.{Laws.{FindsInput, SymbolsAreReadable}, Reading.{IsReadableSquare, is_checked}, Scanning.{FindsSymbol}}
use Rattle.qr_scanning.proofs.lemmas.clean.{square-again}
use Rattle.qr_scanning.specs.declared.scanning.Scanned.{Scanned}

-- a list differs from itself in no item
differences-none : (xs : List ℕ) → differences xs xs ≡ 0
differences-none [] = refl
differences-none (x ∷ xs) = omega (arith, difference-same x x refl, differences-none xs)

-- a final sequence is mended to its message, and no codeword is changed
final-unchanged : (v mask n : ℕ) (l : Level) (g : Grid) (d cw : List ℕ) → 1 ≤ v → v ≤ 40 → IsRead v mask g cw → length d ≡ data_codewords_of v l → IsInterleaved v l d cw
    → IsMendedIn (light n) v l cw d (map unerased (replicate (block_count (data_sizes (blocks_of v l))) 0))
final-unchanged v mask n l g d cw p q r many whole =
    let own = data_sizes (blocks_of v l) in
    let long : length d ≡ codeword_count own = many ∙ sym (data-sizes-whole v l p q) in
    let w = final-in-blocks (blocks_of v l) d cw long whole in
    light-mended v mask n l g cw d w.checks d (replicate (block_count own) 0) p q r w.inside (record {
      long = long;
      many = length-replicate (block_count own) 0;
      each = λ i k.
          let none = get_or-replicate {A = ℕ} (block_count own) i 0 0 k in
          let c = get_or whole.corrections i [] in
          record {
            correction = c;
            corrects = whole.each i k;
            few = omega arith;
            count = cc (differences-none (part_of own d i ++ c), w.same i k);
          };
    })

-- the square of a symbol is a square
symbol-square : (v : ℕ) (l : Level) (mask : ℕ) (cw : List ℕ) (g : Grid) → g ≡ grid_of v l mask cw → IsSquare g.side g
symbol-square v l mask cw g drawn =
    let n = g.side in
    let f = colour_of v l mask cw in
    let own : g ≡ square n f = drawn ∙ ap (λ (h : Grid). square h.side f) (sym drawn) in
    own ∙ square-same n f (colour g) (λ r c k m. sym (colour-square n f r c k m) ∙ ap (λ (h : Grid). colour h r c) (sym own))

-- a symbol is read with its version, its level and its mask
abbrev symbol-again : (v : ℕ) (l : Level) (rule : Rule) (i : Interpretation) (x : List ℕ) (h : Option Header) (mask : ℕ) (g : Grid) → 1 ≤ v → v ≤ 40 → MayWrite i x
    → (s : IsSymbolAt v l rule i x h mask g) → IsReading g (interpreted_content i h s.segments x)
symbol-again v l rule i x h mask g p q may s = record {
  version = v;
  level = l;
  mask = mask;
  message = s.message;
  sized = record { least = p; most = q; side = ap (λ (k : Grid). k.side) s.drawn };
  format = symbol-format v l rule i x h mask g p q s;
  holds = symbol-holds v l rule i x h mask g p q s;
  parsed = symbol-parsed v l rule i x h mask g may s;
}

-- blocks without erased codewords are checked
unerased-checked : (spare : ℕ) (xs : List ℕ) → All (λ c. is_checked spare c ≡ true) (map unerased xs)
unerased-checked spare [] = λ k d l. absurd (omega arith)
unerased-checked spare (x ∷ xs) = All-cons (λ c. is_checked spare c ≡ true) (unerased x) (map unerased xs) refl (unerased-checked spare xs)

-- a symbol can be read
pub symbol-readable : ((g : Grid) (p : Content) → (h : IsReading g p) → IsMendedReading (light g.side) g h.version h.level h.mask p (replicate (blocks_in h.version h.level) no_changes))
    → ((g : Grid) (v : ℕ) (l : Level) (mask : ℕ) (changed : List Changes) (wrong : ℕ) → IsSquare g.side g
    → (w : HasWrongModules (light g.side) g v l mask changed wrong) → (wrong ≡ 0) ↔ (g ≡ grid_of v l mask w.differs.codewords))
    → (v : ℕ) (l : Level) (rule : Rule) (i : Interpretation) (x : List ℕ) (h : Option Header) (mask : ℕ) (g : Grid) → 1 ≤ v → v ≤ 40 → MayWrite i x
    → IsSymbolAt v l rule i x h mask g → IsReadableSquare (light g.side) g
symbol-readable mended sound v l rule i x h mask g p q may s =
    let u = light g.side in
    let content = interpreted_content i h s.segments x in
    let holds = symbol-holds v l rule i x h mask g p q s in
    let parsed = symbol-parsed v l rule i x h mask g may s in
    let reading = symbol-again v l rule i x h mask g p q may s in
    let m = mended g content reading in
    let changed = map unerased (replicate (block_count (data_sizes (blocks_of v l))) 0) in
    let form : IsDamagedForm u g v l mask s.message changed = record {
      sized = m.form.sized;
      format = m.form.format;
      damaged = record { codewords = holds.codewords; held = holds.read; mended = final-unchanged v mask g.side l g s.message holds.codewords p q holds.read holds.many holds.interleaved };
    } in
    let count = wrong_modules u g (grid_of v l mask s.codewords) in
    let counted : HasWrongModules u g v l mask changed count = record {
      message = s.message;
      form = form;
      differs = record { codewords = s.codewords; interleaved = s.interleaved; count = refl };
    } in
    let none : count ≡ 0 = (sound g v l mask changed count (symbol-square v l mask s.codewords g s.drawn) counted).1 s.drawn in
    record {
      version = v;
      level = l;
      mask = mask;
      content = content;
      changed = changed;
      wrong = count;
      read = record { message = s.message; form = form; parsed = parsed };
      counted = counted;
      few = omega (arith, none);
      checked = unerased-checked (spare_of v l) (replicate (block_count (data_sizes (blocks_of v l))) 0);
    }

-- a symbol that is found by its drawing is read
pub input-found : {V E : Type 0} (v : ℕ) (p : Picture) (r : Result V E) (items : V → List Scanned) → 1 ≤ v → v ≤ 40 → SymbolsAreReadable v
    → IfOk r (λ all. FindsSymbol p 1 (items all)) → IfOk r (λ all. FindsInput v p (items all))
input-found v p (Ok all) items some most readable finds = λ x l rule i h mask g square may s apart clean.
    let side : g.side ≡ square.frame.side = ap (λ (k : Grid). k.side) clean.square in
    let read = subst (λ (n : ℕ). IsReadableSquare (light n) g) side (readable x l rule i h mask g may s) in
    let found = finds square false g (record { apart = apart; clean = clean; read = read; last = λ never _. omega (arith, ap byte_of never) }) (omega arith) in
    let z = found.0 in
    let own = subst (λ (n : ℕ). IsSquare n g) (sym found.2.side) clean.square in
    let same = square-again z.side g z.modules.items own found.2.modules in
    (z, found.1, found.2, subst (λ (k : Grid). IsReading k (interpreted_content i h s.segments x)) (sym same) (symbol-again v l rule i x h mask g some most may s))
input-found v p (Err e) items some most readable finds = finds
