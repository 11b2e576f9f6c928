use Rattle.qr_bits.{proofs.Facts.length-stream, specs.{Interpretation.MayWrite, Modes.may_use, declared.interpretation.Interpretation.Interpretation}}
use Rattle.{qr_bits.specs.declared.modes.{Mode.TheVariants.Kanji, Rule.Rule}, qr_layout.specs.declared.level.Level.Level}
use Rattle.qr_symbol.proofs.lemmas.{fault.{empty-has-series, empty-many, not-empty, too-many-exactly}, series.PartExistenceLemmas.none-shorter}
use Rattle.qr_symbol.proofs.lemmas.series.{PartLemmas.lengths-some, SeriesLemmas.{series-interpreted, series-joined, split-series}, SizeLemmas.series-shortest}
use Rattle.qr_symbol.{proofs.lemmas.version_choice.fits-bits, specs.Joining.{AreInterpreted, IsJoined}}
use Rattle.qr_symbol.specs.{Series.{squares_of, HasNoSeries, IsSeries, NeedsParts}, declared.{fault.EncodeFault.EncodeFault, symbol.Symbol.Symbol}}
use Rattle.std.proofs.Common.{◌≡◌, ◌≢◌, ◌≤◌, ◌↔◌, ◌⊎◌, [], inl, inr, false, ℕ, List, length, Result, Err, Vec, Global, sym, ap, ◌∙◌, arith, rules}
use Rattle.std.proofs.{Math.Nat.pos_of_ne-zero, lemmas.{Bool.{eqb-false, eqb-true}, Grind.common_steps, List.nil_from_length}}
use Rattle.std.proofs.lemmas.Option.{MatchOption-at_none, MatchOption-at_some}
use Rattle.std.{proofs.lemmas.Result.{err_from_is_err_and, IfOk-weaker, MatchResult-at_err, MatchResult-weaker}, specs.Prelude.{IfOk, IfErr, MatchResult}}
use Rattle.qr_symbol.specs.declared.fault.EncodeFault.TheVariants as fault
use Rattle.qr_symbol.proofs.series.encode_series.Goals as goal

-- what the clauses say of the result
abbrev Told : ℕ → Level → Rule → Interpretation → List ℕ → Result (Vec Symbol Global) EncodeFault → Type 0
Told v l b how x r = record {
  series : IfOk r (λ ss. IsSeries v l b how x ss.items);
  joined : IfOk r (λ ss. IsJoined (squares_of ss.items) x);
  interpreted : IfOk r (λ ss. AreInterpreted how (squares_of ss.items));
  shortest : IfOk r (λ ss. may_use b Kanji ≡ false → NeedsParts v l b how x (length ss.items));
  empty : (r ≡ Err fault.Empty) ↔ (x ≡ []);
  too_many : (r ≡ Err fault.TooMany) ↔ ((r ≢ Err fault.Memory) × HasNoSeries v l b how x);
  no_shorter : r ≡ Err fault.TooMany → may_use b Kanji ≡ false → NeedsParts v l b how x 17;
  fault : IfErr r (λ e. (e ≡ fault.Empty) ⊎ (e ≡ fault.TooMany) ⊎ (e ≡ fault.Memory));
}

-- they hold if the result is the series of bytes that are not empty, or says that there is none
told : (v : ℕ) (l : Level) (b : Rule) (how : Interpretation) (x : List ℕ) (r : Result (Vec Symbol Global) EncodeFault) → 1 ≤ v → v ≤ 40 → MayWrite how x → length x ≢ 0
    → MatchResult r (λ ss. IsSeries v l b how x ss.items) (λ e. (e ≡ fault.Memory) ⊎ ((e ≡ fault.TooMany) × HasNoSeries v l b how x)) → Told v l b how x r
told v l b how x r least most written long is =
    let empty : r ≡ Err fault.Empty → ⊥ = λ e. not-empty (λ h. cc) (MatchResult-at_err _ _ _ e is) in
    let series = MatchResult-weaker r is (λ ss h. h) (λ e _. tt) in
    let many = too-many-exactly _ _ _ _ _ r is in record {
      series = series;
      joined = IfOk-weaker r _ _ (λ ss h. series-joined _ _ _ _ _ ss.items least most written h) series;
      interpreted = IfOk-weaker r _ _ (λ ss h. series-interpreted _ _ _ _ _ ss.items least most written h) series;
      shortest = IfOk-weaker r _ _ (λ ss h no_kanji. series-shortest _ _ _ _ _ ss.items written no_kanji (pos_of_ne-zero long) h) series;
      empty = (λ e. absurd (empty e), λ e. absurd (long (ap length e)));
      too_many = many;
      no_shorter = λ e no_kanji. none-shorter _ _ _ _ _ least most written no_kanji (many.0 e).1;
      fault = MatchResult-weaker r is (λ ss _. tt) (λ e w. elim w [ inl m ↦ inr (inr m) | inr h ↦ inr (inl h.0) ]);
    }

pub returns-then-is_empty : goal.returns-then-is_empty
returns-then-is_empty c = grind (arith, common_steps, nil_from_length, eqb-true, empty-many, empty-has-series)

pub returns-in_err-symbol : goal.returns-in_err-symbol
returns-in_err-symbol c = grind (arith, common_steps, eqb-false)

pub returns-in_err-push : goal.returns-in_err-push
returns-in_err-push c = told _ _ _ _ _ c.from_residual-in_err-push.result (omega arith) (omega arith) c.requires.written (eqb-false _ 0 (sym c.is_empty.ensures ∙ c.if-is_empty.false)) (search rules)

pub returns-in-Some : goal.returns-in-Some
returns-in-Some c = told _ _ _ _ _ _ (omega arith) (omega arith) c.requires.written (eqb-false _ 0 (sym c.is_empty.ensures ∙ c.if-is_empty.false)) (search (arith, MatchOption-at_some, fits-bits, length-stream))

pub symbols_on-requires-clause-some : goal.symbols_on-requires-clause-some
symbols_on-requires-clause-some c = search (rules, pos_of_ne-zero, eqb-false, lengths-some)

pub symbols_on-requires-clause-parts : goal.symbols_on-requires-clause-parts
symbols_on-requires-clause-parts c = grind (arith, common_steps)

pub returns-in_err-lengths : goal.returns-in_err-lengths
returns-in_err-lengths c =
    let p = err_from_is_err_and c.from_residual-in_err-lengths.result c.from_residual-in_err-lengths.ensures.1 in
    let long = MatchOption-at_none _ _ c.in_default.is c.in_ok-symbol.ensures in
    told _ _ _ _ _ _ (omega arith) (omega arith) c.requires.written (eqb-false _ 0 (sym c.is_empty.ensures ∙ c.if-is_empty.false))
    (rw (p.1, p.2) (inr (c.in_err-lengths.ensures.0, record { too_long = long; too_many = c.in_err-lengths.ensures.1 })))

pub returns-in_err-canvas : goal.returns-in_err-canvas
returns-in_err-canvas c = told _ _ _ _ _ c.from_residual-in_err-canvas.result (omega arith) (omega arith) c.requires.written (eqb-false _ 0 (sym c.is_empty.ensures ∙ c.if-is_empty.false)) (search rules)

pub returns : goal.returns
returns c = told _ _ _ _ _ c.symbols_on.result (omega arith) (omega arith) c.requires.written (eqb-false _ 0 (sym c.is_empty.ensures ∙ c.if-is_empty.false))
    (MatchResult-weaker c.symbols_on.result (rw (c.in_ok-canvas.ensures.version, c.in_ok-canvas.ensures.level) at c.symbols_on.ensures)
    (λ ss made. split-series _ _ _ _ _ c.as_slice.result.now ss.items (MatchOption-at_none _ _ c.in_default.is c.in_ok-symbol.ensures)
    (rw c.as_slice.ensures.value c.in_ok-lengths.ensures) (omega arith) made) (λ e m. inl m))
