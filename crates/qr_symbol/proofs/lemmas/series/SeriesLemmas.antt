-- An input has only one series, which is read as the input; long inputs have no series.
use Rattle.qr_bits.{proofs.Facts.{empty-fits, least-meant, may_write-drop, may_write-take}, specs.{Header.parity_of, Interpretation.MayWrite, Parsing.Content}}
use Rattle.qr_bits.specs.declared.{interpretation.Interpretation.Interpretation, modes.Rule.Rule, stream.Header.Header}
use Rattle.{qr_layout.specs.declared.level.Level.Level, qr_matrix.specs.Grid.Grid, qr_symbol.proofs.lemmas.encoding.symbol-at-one}
use Rattle.qr_symbol.proofs.lemmas.{reading.RoundTripLemmas.symbol-read, series.PartLemmas.{parts-are, length-parts, parts-one, parts-some, parts-long}}
use Rattle.qr_symbol.{proofs.lemmas.version_choice.version-short, specs.Encoding.IsSymbolAt}
use Rattle.qr_symbol.specs.{Joining.{AreInterpreted, AreReadBy, bytes_of_all, HaveHeaders, IsJoined}, Reading.{interpreted_content, IsInterpreted, IsReading}}
use Rattle.qr_symbol.specs.{Series.{squares_of, AreParts, IsSymbolOf, AreSymbolsFrom, IsSplit, IsPlainSymbol, IsSeries}, Steps.Series.{AreLengths, parts_of}}
use Rattle.qr_symbol.specs.{VersionChoice.{FitsVersion, HasNoVersion}, declared.symbol.Symbol.Symbol}
use Rattle.std.proofs.Common.{◌≡◌, ℕ, suc, ◌+◌, ◌-◌, ◌*◌, ◌<◌, ◌≤◌, List, [], ◌∷◌, length, drop, None, Some, Option, refl, sym, ap, subst, arith, inl, inr}
use Rattle.std.proofs.lemmas.List.{append-nil, take-append-drop, Elements.{All-cons, All-nil}}

-- ---- what makes a series

-- the symbols of parts are a series
pub split-series : (x : List ℕ) (l : Level) (b : Rule) (how : Interpretation) (v : ℕ) (ns : List ℕ) (ss : List Symbol) → (FitsVersion v l b how x → ⊥) → AreLengths v l b how x ns → length ns ≤ 16
    → AreSymbolsFrom v l b how (length ns - 1) (parity_of x) 0 (parts_of x ns) ss → IsSeries v l b how x ss
split-series x l b how v ns ss long cut few made = search (arith, length-parts, parts-are)

-- ---- only one series

-- bytes have at most one symbol of a version and a level after an optional header
pub symbol-of-one : (v : ℕ) (l : Level) (b : Rule) (how : Interpretation) (x : List ℕ) (h : Option Header) (s t : Symbol) → IsSymbolOf v l b how x h s → IsSymbolOf v l b how x h t → s ≡ t
symbol-of-one v l b how x h s t a c = let same = symbol-at-one v l b how x h _ _ _ _ a.made c.made in search arith

-- parts have at most one list of symbols
symbols-one : (v : ℕ) (l : Level) (b : Rule) (how : Interpretation) (last parity k : ℕ) (ps : List (List ℕ)) (ss ts : List Symbol) → AreSymbolsFrom v l b how last parity k ps ss → AreSymbolsFrom v l b how last parity k ps ts → ss ≡ ts
unfolding AreSymbolsFrom
symbols-one v l b how last parity k (p ∷ ps) (s ∷ ss) (t ∷ ts) h g =
    search (arith, symbol-of-one, symbols-one v l b how last parity (k + 1) ps ss ts h.1 g.1)
symbols-one v l b how last parity k ps ss ts h g = search arith

-- bytes have at most one series
pub series-one : (x : List ℕ) (l : Level) (b : Rule) (how : Interpretation) (v : ℕ) (ss ts : List Symbol) → IsSeries v l b how x ss → IsSeries v l b how x ts → ss ≡ ts
series-one x l b how v ss ts (inl h) (inl k) = cc (symbol-of-one v l b how x None h.symbol k.symbol h.made k.made)
series-one x l b how v ss ts (inl h) (inr k) = absurd (k.too_long h.fits)
series-one x l b how v ss ts (inr h) (inl k) = absurd (h.too_long k.fits)
series-one x l b how v ss ts (inr h) (inr k) = search (arith, parts-one, symbols-one)

-- ---- what a series is read as

-- the contents of the symbols of parts: their headers, their number and their bytes
record AreRead (x : List ℕ) (last parity k count : ℕ) (squares : List Grid) : Type 0 where
  contents : List Content
  read : AreReadBy IsReading squares contents
  headers : HaveHeaders last parity k contents
  many : length contents ≡ count
  bytes : bytes_of_all contents ≡ x

-- the symbols of parts are read as the parts, in their order
symbols-read : (v : ℕ) (l : Level) (b : Rule) (how : Interpretation) (last parity k : ℕ) (x : List ℕ) (ps : List (List ℕ)) (ss : List Symbol) → 1 ≤ v → v ≤ 40 → MayWrite how x → AreParts v l b how x ps → AreSymbolsFrom v l b how last parity k ps ss
    → AreRead x last parity k (length ps) (squares_of ss)
unfolding AreParts AreSymbolsFrom AreReadBy HaveHeaders
symbols-read v l b how last parity k x [] [] i j w cut h = search arith
symbols-read v l b how last parity k x [] (s ∷ ss) i j w cut h = absurd h
symbols-read v l b how last parity k x (p ∷ ps) [] i j w cut h = absurd h
symbols-read v l b how last parity k x (p ∷ ps) (s ∷ ss) i j w cut h =
    let rest = symbols-read v l b how _ _ (k + 1) _ ps ss i j (may_write-drop how cut.0 x w) cut.4 h.1 in
    let made = h.0.made in
    let may : MayWrite how p = search (arith, may_write-take) in record {
      contents = (interpreted_content how (Some (record { position = k; last = last; parity = parity })) made.segments p) ∷ rest.contents;
      read = search (arith, symbol-read);
      headers = (refl, rest.headers);
      many = ap suc rest.many;
      bytes = cc (take-append-drop cut.0 x);
    }

-- joining a symbol without a header has its bytes as the result
lone-joined : (x : List ℕ) (l : Level) (b : Rule) (how : Interpretation) (v : ℕ) (ss : List Symbol) → 1 ≤ v → v ≤ 40 → MayWrite how x → IsPlainSymbol v l b how x ss → IsJoined (squares_of ss) x
unfolding AreReadBy
lone-joined x l b how v ss i j w h =
    let made = h.made.made in let content : Content = interpreted_content how None made.segments x in
    subst (λ (ts : List Symbol). IsJoined (squares_of ts) x) (sym h.alone) (record {
      contents = content ∷ [];
      read = (symbol-read v l b how x None _ _ i j w made, tt);
      together = inl (content, refl, refl);
      joined = sym (append-nil x);
    })

-- the symbols of parts are joined to the bytes
split-joined : (x : List ℕ) (l : Level) (b : Rule) (how : Interpretation) (v : ℕ) (ss : List Symbol) → 1 ≤ v → v ≤ 40 → MayWrite how x → IsSplit v l b how x ss → IsJoined (squares_of ss) x
split-joined x l b how v ss i j w h =
    let r = symbols-read v l b how _ _ 0 x _ ss i j w h.split h.made in
    let last : length h.parts - 1 ≡ length r.contents - 1 = ap (λ (n : ℕ). n - 1) (sym r.many) in record {
      contents = r.contents;
      read = r.read;
      together = inr ((let some = parts-some v l b how x _ h.split (not-empty x l b how v h.too_long) in omega arith), (search arith));
      joined = sym r.bytes;
    }
  where
    -- what does not fit is not empty
    not-empty : (x : List ℕ) (l : Level) (b : Rule) (how : Interpretation) (v : ℕ) → (FitsVersion v l b how x → ⊥) → 0 < length x
    not-empty [] l b how v none = absurd (none (empty-fits how v b _))
    not-empty _ l b how v _ = omega arith

-- a series is joined to its bytes
pub series-joined : (x : List ℕ) (l : Level) (b : Rule) (how : Interpretation) (v : ℕ) (ss : List Symbol) → 1 ≤ v → v ≤ 40 → MayWrite how x → IsSeries v l b how x ss → IsJoined (squares_of ss) x
series-joined x l b how v ss i j w (inl h) = lone-joined x l b how v ss i j w h
series-joined x l b how v ss i j w (inr h) = split-joined x l b how v ss i j w h

-- ---- their interpretation

-- a square has the interpretation
abbrev HasInterpretation : Interpretation → Grid → Type 0
HasInterpretation how g = (c : Content) × IsReading g c × IsInterpreted how c

-- a symbol is read with its interpretation
symbol-interpreted : (v : ℕ) (l : Level) (b : Rule) (how : Interpretation) (x : List ℕ) (h : Option Header) (mask : ℕ) (g : Grid) → 1 ≤ v → v ≤ 40 → MayWrite how x
    → IsSymbolAt v l b how x h mask g → HasInterpretation how g
symbol-interpreted v l b how x h mask g i j w s =
    (interpreted_content how h s.segments x, symbol-read v l b how x h mask g i j w s, (refl, (least-meant how v b x s.characters s.segments h w s.chosen).1))

-- the symbols of parts are read with the interpretation of the whole
parts-interpreted : (v : ℕ) (l : Level) (b : Rule) (how : Interpretation) (last parity k : ℕ) (x : List ℕ) (ps : List (List ℕ)) (ss : List Symbol) → 1 ≤ v → v ≤ 40 → MayWrite how x → AreParts v l b how x ps
    → AreSymbolsFrom v l b how last parity k ps ss → AreInterpreted how (squares_of ss)
unfolding AreParts AreSymbolsFrom
parts-interpreted v l b how last parity k x [] [] i j w cut h = All-nil (HasInterpretation how)
parts-interpreted v l b how last parity k x [] (s ∷ ss) i j w cut h = absurd h
parts-interpreted v l b how last parity k x (p ∷ ps) [] i j w cut h = absurd h
parts-interpreted v l b how last parity k x (p ∷ ps) (s ∷ ss) i j w cut h =
    let may : MayWrite how p = search (arith, may_write-take) in
    All-cons (HasInterpretation how) s.matrix (squares_of ss) (symbol-interpreted v l b how p _ s.mask s.matrix i j may h.0.made)
    (parts-interpreted v l b how last parity (k + 1) (drop cut.0 x) ps ss i j (may_write-drop how cut.0 x w) cut.4 h.1)

-- the symbols of a series are read with its interpretation
pub series-interpreted : (x : List ℕ) (l : Level) (b : Rule) (how : Interpretation) (v : ℕ) (ss : List Symbol) → 1 ≤ v → v ≤ 40 → MayWrite how x → IsSeries v l b how x ss → AreInterpreted how (squares_of ss)
series-interpreted x l b how v ss i j w (inl h) =
    subst (λ (ts : List Symbol). AreInterpreted how (squares_of ts)) (sym h.alone)
    (All-cons (HasInterpretation how) h.symbol.matrix [] (symbol-interpreted v l b how x None h.symbol.mask h.symbol.matrix i j w h.made.made) (All-nil (HasInterpretation how)))
series-interpreted x l b how v ss i j w (inr h) = search (arith, parts-interpreted)

-- ---- long inputs

-- more than 7,089 bytes fit no version
pub long-fits-none : (x : List ℕ) (l : Level) (smallest : ℕ) (b : Rule) (how : Interpretation) → 1 ≤ smallest → 7089 < length x → HasNoVersion smallest l b how x
long-fits-none x l smallest b how i long v p q fits = let short = version-short v l b how x (omega arith) q fits in omega arith

-- inputs of more than 16 times 7,089 bytes have no series
pub long-has-no-series : (x : List ℕ) (l : Level) (b : Rule) (how : Interpretation) (v : ℕ) (ss : List Symbol) → 1 ≤ v → v ≤ 40 → 7089 * 16 < length x → IsSeries v l b how x ss → ⊥
long-has-no-series x l b how v ss i j long (inl h) = let short = version-short v l b how x i j h.fits in omega arith
long-has-no-series x l b how v ss i j long (inr h) = search (arith, parts-long)
