-- A call is refused for a fault exactly if the fault is there, unless memory is refused.
use Rattle.qr_bits.{proofs.Facts.empty-fits, specs.declared.{interpretation.Interpretation.Interpretation, modes.Rule.Rule}}
use Rattle.qr_layout.specs.declared.level.Level.{Level}
use Rattle.qr_symbol.{proofs.lemmas.version_choice.version-short, specs.{Series.{IsSeries, HasNoSeries}, Steps.Encoding.IsRefusedExactly}}
use Rattle.qr_symbol.specs.{VersionChoice.{FitsVersion, HasNoVersion}, declared.{fault.EncodeFault.EncodeFault, symbol.Symbol.Symbol}}
use Rattle.std.proofs.Common.{◌≡◌, ◌≢◌, ◌<◌, ◌≤◌, ◌↔◌, ◌⊎◌, inl, inr, ℕ, List, [], length, Result, Ok, Err, Vec, Global, sym, ap, subst, arith}
use Rattle.std.specs.Prelude.{IfOk, IfErr, MatchResult}
use Rattle.qr_symbol.specs.declared.fault.EncodeFault.TheVariants as fault

-- the result is the fault e exactly if it is not lack of memory and the fact holds
abbrev pub Refused : {X E : Type 0} → Result X E → (e memory : E) → Type 0 → Type 0
Refused r e memory P = (r ≡ Err e) ↔ ((r ≢ Err memory) × P)

-- what makes it, if with the fact no value is returned, and no other fault than e and lack of memory
pub exactly : {X E : Type 0} (r : Result X E) (e memory : E) (P : Type 0) → (e ≡ memory → ⊥) → (r ≡ Err e → P)
    → IfOk r (λ _. P → ⊥) → IfErr r (λ g. (P → g ≡ e) ⊎ (g ≡ memory)) → Refused r e memory P
exactly {X = X} {E = E} r e memory P other f none told = grind arith

-- `TooMany` is returned exactly if the input has no series, unless memory was refused
pub too-many-exactly : (x : List ℕ) (l : Level) (b : Rule) (how : Interpretation) (v : ℕ) (r : Result (Vec Symbol Global) EncodeFault) → MatchResult r
    (λ ss. IsSeries v l b how x ss.items) (λ e. (e ≡ fault.Memory) ⊎ ((e ≡ fault.TooMany) × HasNoSeries v l b how x))
    → Refused r fault.TooMany fault.Memory (HasNoSeries v l b how x)
too-many-exactly x l b how v r h = grind (arith, exactly)

-- an empty input fits a version, and is short
pub empty-has-version : (x : List ℕ) (l : Level) (b : Rule) (how : Interpretation) (smallest : ℕ) → smallest ≤ 40 → x ≡ [] → HasNoVersion smallest l b how x → ⊥
empty-has-version x l b how smallest most e none = none smallest (omega arith) most (subst (FitsVersion smallest l b how) (sym e) (empty-fits how smallest b _))

pub empty-short : (x : List ℕ) → x ≡ [] → 7089 < length x → ⊥
empty-short x e l = omega (arith, ap length e)

-- an input of more than 7,089 bytes fits no version
pub long-has-no-version : (x : List ℕ) (l : Level) (b : Rule) (how : Interpretation) (smallest : ℕ) → 1 ≤ smallest → 7089 < length x → HasNoVersion smallest l b how x
long-has-no-version x l b how smallest least long v a c fits = omega (arith, version-short v l b how x (omega arith) c fits)

-- bytes that are not empty and not more than 7,089 are refused exactly if they fit no version, unless memory was
-- refused
pub refused-some : {X : Type 0} (smallest : ℕ) (l : Level) (b : Rule) (how : Interpretation) (x : List ℕ) (r : Result X EncodeFault)
    → length x ≢ 0 → length x ≤ 7089 → MatchResult r (λ _. HasNoVersion smallest l b how x → ⊥)
    (λ e. (e ≡ fault.Memory) ⊎ ((e ≡ fault.TooLong) × HasNoVersion smallest l b how x)) → IsRefusedExactly smallest l b how x r
refused-some smallest l b how x (Ok f) some short fits = search (arith, exactly)
refused-some smallest l b how x (Err e) some short (inl m) = search (arith, exactly)
refused-some smallest l b how x (Err e) some short (inr w) = search (arith, exactly)

-- an empty input has a series
pub empty-has-series : (x : List ℕ) (l : Level) (b : Rule) (how : Interpretation) (v : ℕ) → x ≡ [] → HasNoSeries v l b how x → ⊥
empty-has-series x l b how v e none = none.too_long (subst (FitsVersion v l b how) (sym e) (empty-fits how v b _))

-- a fault that is lack of memory or one other is not `Empty`
pub not-empty : {Q : Type 0} {f : EncodeFault} → (fault.Empty ≡ f → ⊥) → (fault.Empty ≡ fault.Memory) ⊎ ((fault.Empty ≡ f) × Q) → ⊥
not-empty other h = grind arith

-- an empty input is refused neither as too long nor as too many
pub empty-long : {X : Type 0} → ◌≡◌ {A = Result X EncodeFault} (Err fault.Empty) (Err fault.TooLong) → ⊥
empty-long e = cc

pub empty-many : {X : Type 0} → ◌≡◌ {A = Result X EncodeFault} (Err fault.Empty) (Err fault.TooMany) → ⊥
empty-many e = cc
