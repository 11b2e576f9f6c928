-- The number of symbols of a series, and their side.
use Rattle.qr_bits.{proofs.Facts.empty-fits, specs.{Interpretation.MayWrite, Modes.may_use, declared.interpretation.Interpretation.Interpretation}}
use Rattle.{qr_bits.specs.declared.modes.{Mode.TheVariants.Kanji, Rule.Rule}, qr_layout.specs.{Version.side_of, declared.level.Level.Level}}
use Rattle.qr_symbol.{proofs.lemmas.series.PartLemmas.{needs-some, needs-parts}, specs.Series.{squares_of, AreParts, NeedsParts, AreSymbolsFrom, IsSeries}}
use Rattle.qr_symbol.specs.{VersionChoice.FitsVersion, declared.symbol.Symbol.Symbol}
use Rattle.std.proofs.{Common.{◌≡◌, ℕ, ◌+◌, ◌<◌, ◌≤◌, inl, inr, false, List, [], ◌∷◌, length, refl, sym, subst, arith}, lemmas.List.Elements.All-nil}
use Rattle.std.specs.List.{All}

-- there are as many symbols as parts
pub symbols-many : (v : ℕ) (l : Level) (b : Rule) (how : Interpretation) (last parity k : ℕ) (ps : List (List ℕ)) (ss : List Symbol) → AreSymbolsFrom v l b how last parity k ps ss → length ss ≡ length ps
unfolding AreSymbolsFrom
symbols-many v l b how last parity k [] [] h = refl
symbols-many v l b how last parity k [] (s ∷ ss) h = absurd h
symbols-many v l b how last parity k (p ∷ ps) [] h = absurd h
symbols-many v l b how last parity k (p ∷ ps) (s ∷ ss) h = omega (arith, symbols-many v l b how _ _ (k + 1) ps ss h.1)

-- each symbol of the parts has the side of the version
pub symbols-side : (v : ℕ) (l : Level) (b : Rule) (how : Interpretation) (last parity k : ℕ) (ps : List (List ℕ)) (ss : List Symbol) → AreSymbolsFrom v l b how last parity k ps ss → All (λ g. g.side ≡ side_of v) (squares_of ss)
unfolding AreSymbolsFrom
symbols-side v l b how last parity k [] [] h = All-nil (λ g. g.side ≡ side_of v)
symbols-side v l b how last parity k [] (s ∷ ss) h = absurd h
symbols-side v l b how last parity k (p ∷ ps) [] h = absurd h
symbols-side v l b how last parity k (p ∷ ps) (s ∷ ss) h = search (arith, symbols-side v l b how _ _ (k + 1) ps ss h.1)

-- bytes that do not fit one symbol have at least one part
parts-some : (x : List ℕ) (l : Level) (b : Rule) (how : Interpretation) (v : ℕ) (ps : List (List ℕ)) → (FitsVersion v l b how x → ⊥) → AreParts v l b how x ps → 0 < length ps
unfolding AreParts
parts-some x l b how v [] long none = absurd (long (subst (λ (y : List ℕ). FitsVersion v l b how y) (sym none) (empty-fits how v b _)))
parts-some x l b how v (p ∷ ps) long h = omega arith

-- a series has at least one symbol
pub series-some : (x : List ℕ) (l : Level) (b : Rule) (how : Interpretation) (v : ℕ) (ss : List Symbol) → IsSeries v l b how x ss → 0 < length ss
series-some x l b how v ss h = grind (arith, parts-some, symbols-many)

-- a series has at most 16 symbols
pub series-few : (x : List ℕ) (l : Level) (b : Rule) (how : Interpretation) (v : ℕ) (ss : List Symbol) → IsSeries v l b how x ss → length ss ≤ 16
series-few x l b how v ss h = grind (arith, symbols-many)

-- without kanji mode, bytes need as many parts as their series has symbols
pub series-shortest : (x : List ℕ) (l : Level) (b : Rule) (how : Interpretation) (v : ℕ) (ss : List Symbol) → MayWrite how x → may_use b Kanji ≡ false → 0 < length x → IsSeries v l b how x ss → NeedsParts v l b how x (length ss)
series-shortest x l b how v ss may no_kanji some (inl h) = subst (λ (ts : List Symbol). NeedsParts v l b how x (length ts)) (sym h.alone) (needs-some v l b how x some)
series-shortest x l b how v ss may no_kanji some (inr h) = search (arith, symbols-many, needs-parts)

-- the symbols of a series have the side of their version
pub series-side : (x : List ℕ) (l : Level) (b : Rule) (how : Interpretation) (v : ℕ) (ss : List Symbol) → IsSeries v l b how x ss → All (λ g. g.side ≡ side_of v) (squares_of ss)
series-side x l b how v ss h = grind (arith, symbols-side)
