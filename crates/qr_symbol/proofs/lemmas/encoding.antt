-- An input has only one symbol, and a symbol that is built from the codewords of an input is the symbol of this input.
use Rattle.qr_bits.{proofs.Facts.{capacity-least, least_fits, data-one, segmentation-one}, specs.Header.header_bits}
use Rattle.qr_bits.specs.{Interpretation.{MayWrite, interpretation_bits}, Padding.{IsData, capacity_of, room_of}}
use Rattle.qr_bits.specs.{Segmentation.{bits, HasFit, IsLeastSegmentation}, declared.{interpretation.Interpretation.Interpretation, modes.Rule.Rule}}
use Rattle.{qr_bits.specs.declared.{segmentation.Segment.Segment, stream.Header.Header}, qr_layout.specs.declared.level.Level.Level, qr_matrix.specs.Grid.Grid}
use Rattle.qr_symbol.proofs.lemmas.{fault.exactly, interleaving.MessageLemmas.final-one, reading.RoundTripLemmas.symbol-read}
use Rattle.qr_symbol.proofs.lemmas.version_choice.{fits-bits, interpretation-most}
use Rattle.qr_symbol.specs.{Encoding.{IsSymbolAt, IsBoostedSymbol, IsSymbol, BoostedSymbolsAreOne, SymbolsAreOne}, Interleaving.IsInterleaved}
use Rattle.qr_symbol.specs.{Reading.IsReadBack, Series.IsSymbolOf, Steps.Encoding.IsRefusedExactly}
use Rattle.qr_symbol.specs.{VersionChoice.{FitsVersion, IsHighestLevel, IsVersion, level_rank}, declared.{fault.EncodeFault.EncodeFault, symbol.Symbol.Symbol}}
use Rattle.std.proofs.{Common.{◌≡◌, ℕ, ◌+◌, ◌<◌, ◌≤◌, Bool, true, false, List, Option, None, Some, Result, Ok, Err, refl, subst, sym, arith, inl, inr}, lemmas.Bool.cases_lt}
use Rattle.std.specs.Prelude.{IfOk, IfErr}
use Rattle.qr_symbol.specs.declared.fault.EncodeFault.TheVariants as fault

-- Two least versions are equal.
pub version-one : (xs : List ℕ) (l : Level) (least : ℕ) (rule : Rule) (how : Interpretation) (v w : ℕ) → IsVersion least l rule how xs v → IsVersion least l rule how xs w → v ≡ w
version-one xs l least rule how v w a b = elim (cases_lt v w) [
  | inl i ↦ absurd (b.first v a.least i a.fits)
  | inr i ↦ elim (cases_lt w v) [ inl j ↦ absurd (a.first w b.least j b.fits) | inr j ↦ omega arith ]
]

-- Bytes have at most one symbol of a version and a level after an optional header.
pub symbol-at-one : (v : ℕ) (l : Level) (rule : Rule) (how : Interpretation) (xs : List ℕ) (head : Option Header) (m n : ℕ) (g h : Grid) → IsSymbolAt v l rule how xs head m g → IsSymbolAt v l rule how xs head n h → (m ≡ n) × (g ≡ h)
symbol-at-one v l rule how xs head m n g h a b =
    let same = segmentation-one how v _ xs _ _ _ _ a.chosen b.chosen in
    let written : IsData v l b.characters b.segments head how a.message = subst (λ (ss : List Segment). IsData v l b.characters ss head how a.message) same.1
    (subst (λ (ys : List ℕ). IsData v l ys a.segments head how a.message) same.0 a.written) in
    let codewords : a.codewords ≡ b.codewords = final-one _ _ _ _
    (subst (λ (d : List ℕ). IsInterleaved v l d a.codewords) (data-one v l _ _ _ _ _ _ written b.written) a.interleaved) b.interleaved in
    grind arith

-- An input has at most one symbol.
pub symbol-one : SymbolsAreOne
symbol-one xs l least rule how v w m n g h a b =
    let version : v ≡ w = version-one xs l _ _ _ v w a.version b.version in
    let rest = symbol-at-one w l _ _ xs _ m n g h (search arith) b.made in (version, rest.0, rest.1)

-- levels of one rank are equal
rank-one : (k j : Level) → level_rank k ≡ level_rank j → k ≡ j
rank-one k j e = grind arith

-- two highest levels are equal
highest-one : (v : ℕ) (l : Level) (rule : Rule) (how : Interpretation) (xs : List ℕ) (k j : Level) → IsHighestLevel v l rule how xs k → IsHighestLevel v l rule how xs j → k ≡ j
highest-one v l rule how xs k j a b = search (arith, rank-one)

-- An input has at most one boosted symbol.
pub boosted-one : BoostedSymbolsAreOne
boosted-one xs l least rule how v w k j m n g h a b =
    let version : v ≡ w = version-one xs l _ _ _ v w a.version b.version in
    let level : k ≡ j = highest-one w l rule how xs k j (search arith) b.level in
    let rest = symbol-at-one w j _ _ xs _ m n g h (search arith) b.made in (version, level, rest.0, rest.1)

-- the symbol of bytes in the least version that they fit is the symbol of the input
symbol-made : (v : ℕ) (l : Level) (smallest : ℕ) (b : Rule) (how : Interpretation) (x : List ℕ) (s : Symbol)
    → IsVersion smallest l b how x v → IsSymbolOf v l b how x None s → IsSymbol smallest l b how x s.version s.mask s.matrix
symbol-made v l smallest b how x s fits made = search arith

-- the same if its level is the one that is asked for, as it is without boost
pub symbol-found : (v : ℕ) (k l : Level) (smallest : ℕ) (b : Rule) (how : Interpretation) (x : List ℕ) (boost : Bool) (r : Result Symbol EncodeFault) → IsVersion smallest l b how x v
    → (boost ≡ false → k ≡ l) → IfOk r (λ s. IsSymbolOf v k b how x None s)
    → IfOk r (λ s. boost ≡ false → (s.level ≡ l) × IsSymbol smallest l b how x s.version s.mask s.matrix)
symbol-found v k l smallest b how x boost (Ok s) fits level made = λ plain.
    let is = subst (λ (z : Level). IsSymbolOf v z b how x None s) (level plain) made in (is.level, symbol-made v l smallest b how x s fits is)
symbol-found v k l smallest b how x boost (Err f) fits level made = tt

-- if bytes fit a version, there is room for the segments of the fewest bits and what says the interpretation
pub version-fits : (v : ℕ) (l : Level) (b : Rule) (how : Interpretation) (x ys : List ℕ) (segs : List Segment) → 1 ≤ v → v ≤ 40
    → IsLeastSegmentation how v b x ys segs → FitsVersion v l b how x → interpretation_bits how + bits v segs ≤ capacity_of v l
version-fits v l b how x ys segs p q chosen fits = (fits-bits v v l b how x ys segs p q (λ m. refl) chosen).0 fits

-- the symbol of bytes at the highest level at which they fit the least version is their boosted symbol
boosted-made : (v : ℕ) (k l : Level) (smallest : ℕ) (b : Rule) (how : Interpretation) (x : List ℕ) (s : Symbol) → IsVersion smallest l b how x v
    → IsHighestLevel v l b how x k → IsSymbolOf v k b how x None s → IsBoostedSymbol smallest l b how x s.version s.level s.mask s.matrix
boosted-made v k l smallest b how x s fits highest made = search arith

-- the same if its level is the highest, as it is with boost
pub boosted-found : (v : ℕ) (k l : Level) (smallest : ℕ) (b : Rule) (how : Interpretation) (x : List ℕ) (boost : Bool) (r : Result Symbol EncodeFault) → IsVersion smallest l b how x v
    → (boost ≡ true → IsHighestLevel v l b how x k) → IfOk r (λ s. IsSymbolOf v k b how x None s)
    → IfOk r (λ s. boost ≡ true → IsBoostedSymbol smallest l b how x s.version s.level s.mask s.matrix)
boosted-found v k l smallest b how x boost (Ok s) fits highest made = λ boosted. boosted-made v k l smallest b how x s fits (highest boosted) made
boosted-found v k l smallest b how x boost (Err f) fits highest made = tt

-- if a level has room for the segments of fewest bits, and each higher level has too little, it is the highest
pub highest-fits : (v : ℕ) (l : Level) (b : Rule) (how : Interpretation) (x ys : List ℕ) (segs : List Segment) (k : Level) → 1 ≤ v → v ≤ 40
    → IsLeastSegmentation how v b x ys segs → level_rank l ≤ level_rank k → interpretation_bits how + bits v segs ≤ capacity_of v k
    → ((m : Level) → level_rank k < level_rank m → capacity_of v m < interpretation_bits how + bits v segs) → IsHighestLevel v l b how x k
highest-fits v l b how x ys segs k p q chosen least room full = record {
  least = least;
  fits = search (arith, fits-bits);
  highest = λ m higher fits. omega (arith, full m higher, version-fits v m b how x ys segs p q chosen fits);
}

-- this symbol is read as the input
pub symbol-back : (v : ℕ) (l : Level) (b : Rule) (how : Interpretation) (x : List ℕ) (r : Result Symbol EncodeFault) → 1 ≤ v
    → v ≤ 40 → MayWrite how x → IfOk r (λ s. IsSymbolOf v l b how x None s) → IfOk r (λ s. IsReadBack s.version b how x s.matrix)
symbol-back v l b how x (Ok s) p q w made = let is = made.made in
    subst (λ (w : ℕ). IsReadBack w b how x s.matrix) (sym made.version)
    (search (arith, symbol-read))
symbol-back v l b how x (Err f) p q w made = tt

-- if some segments have room after a header, so have the segments of the fewest bits
pub behind-header : (v : ℕ) (l : Level) (b : Rule) (how : Interpretation) (x ys : List ℕ) (segs : List Segment) (h : Header) → 1 ≤ v → v ≤ 40
    → IsLeastSegmentation how v b x ys segs → HasFit how v b x (room_of v l how)
    → header_bits (Some h) + interpretation_bits how + bits v segs ≤ capacity_of v l
behind-header v l b how x ys segs h p q chosen fits = search (arith, capacity-least, interpretation-most, least_fits)

-- a fault stays one exactly if it has to be returned
pub refused-again : {X Y : Type 0} (smallest : ℕ) (l : Level) (b : Rule) (how : Interpretation) (x : List ℕ) (e : EncodeFault) → IsRefusedExactly {X = X} smallest l b how x (Err e) → IsRefusedExactly {X = Y} smallest l b how x (Err e)
refused-again smallest l b how x e h = record {
  empty = (λ p. h.empty.0 (cc), λ none. let q = h.empty.1 none in cc);
  too_long = (λ p. let w = h.too_long.0 (cc) in (λ m. w.0 (cc), w.1), λ w. let q = h.too_long.1 (λ m. w.0 (cc), w.1) in cc);
  long = λ more. let q = h.long more in cc;
  fault = h.fault;
}

-- if bytes fit a version, only lack of memory refuses them
pub refused-only : {X Y : Type 0} (smallest : ℕ) (l : Level) (b : Rule) (how : Interpretation) (x : List ℕ) (v : ℕ) (f : X) (r : Result Y EncodeFault)
    → IsRefusedExactly {X = X} smallest l b how x (Ok f) → IsVersion smallest l b how x v → IfErr r (λ e. e ≡ fault.Memory) → IsRefusedExactly smallest l b how x r
refused-only smallest l b how x v f (Ok s) h is told = search (arith, exactly)
refused-only smallest l b how x v f (Err e) h is told = search (arith, exactly)
