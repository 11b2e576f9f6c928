use Rattle.{qr_bits.specs.Interpretation.MayWrite, qr_layout.specs.{declared.level.Level.Level}}
use Rattle.qr_symbol.specs.{Encoding.{IsBoostedSymbol, IsSymbol}, Reading.IsReadBack, VersionChoice.{HasNoVersion, IsVersion}}
use Rattle.qrproved.proofs.encoding.symbol_of.Goals.{After-long_inputs_have_none, Else-not-may_write, In-Err, In-Ok}
use Rattle.qrproved.proofs.lemmas.encoding.{not-refused, refused-some, same-status, too-long-status, version-asked}
use Rattle.qrproved.specs.{Encoding.IsEncoded, Settings.{AreSymbolSettings, interpretation_of, level_of, rule_of}, declared.settings.Settings.Settings}
use Rattle.std.proofs.Common.{◌≡◌, ◌≢◌, ◌↔◌, ◌<◌, ℕ, Err, refl, sym, subst, ◌∙◌, arith, rules}
use Rattle.qr_symbol.specs.declared.fault.EncodeFault.TheVariants as fault
use Rattle.qrproved.proofs.encoding.symbol_of.Goals as goal

-- the numbers are allowed, and the input may be written
allowed : (c : Else-not-may_write) → AreSymbolSettings c.args.numbers.version c.args.numbers.level c.args.numbers.rule c.args.numbers.interpretation c.args.numbers.boost
allowed c = (c.in-Some.ensures.0, omega arith)

may : (c : Else-not-may_write) → MayWrite (interpretation_of c.args.numbers.interpretation) c.args.input.now
may c = search rules

pub returns-then-not-may_write-clause-empty : goal.returns-then-not-may_write-clause-empty
returns-then-not-may_write-clause-empty c =
    (λ h. absurd (omega (arith, same-status _ 12 1 refl h)), λ w. absurd (search (rules, refused-some)))

-- an input that is longer than every symbol holds has no version
none : (c : After-long_inputs_have_none)
    → HasNoVersion c.args.numbers.version (level_of c.args.numbers.level) (rule_of c.args.numbers.rule) (interpretation_of c.args.numbers.interpretation) c.args.input.now
none c =
    let law = c.long_inputs_have_none.ensures.symbol c.args.input.now (level_of c.args.numbers.level) (rule_of c.args.numbers.rule) (interpretation_of c.args.numbers.interpretation) in
    λ v least most fits. law (omega arith) v (search rules) most fits

pub returns-then-input-gt-INPUT_MAX-clause-too_long : goal.returns-then-input-gt-INPUT_MAX-clause-too_long
returns-then-input-gt-INPUT_MAX-clause-too_long c =
    let at = goal.at.returns-then-input-gt-INPUT_MAX-clause-too_long c in
    (λ _. (λ m. absurd (omega (arith, same-status _ 2 4 refl m)), allowed at.Else-not-may_write, may at.Else-not-may_write, none at.After-long_inputs_have_none), λ _. refl)

-- ---- a refusal

told : (c : In-Err) → (c.encode_as.result ≡ Err fault.TooLong) ↔ ((c.encode_as.result ≢ Err fault.Memory)
    × HasNoVersion c.args.numbers.version (level_of c.args.numbers.level) (rule_of c.args.numbers.rule) (interpretation_of c.args.numbers.interpretation) c.args.input.now)
told c = subst (λ (s : Settings). (c.encode_as.result ≡ Err fault.TooLong)
    ↔ ((c.encode_as.result ≢ Err fault.Memory) × HasNoVersion s.size.version s.size.level s.writing.rule s.writing.interpretation c.args.input.now))
    c.in-Some.ensures.1 c.encode_as.ensures.too_long

pub returns-in-Err-clause-too_long : goal.returns-in-Err-clause-too_long
returns-in-Err-clause-too_long c =
    let at = goal.at.returns-in-Err-clause-too_long c in
    rw c.encode_status.ensures (too-long-status c.encode_as.result _ c.in-Err.fault
    (AreSymbolSettings c.args.numbers.version c.args.numbers.level c.args.numbers.rule c.args.numbers.interpretation c.args.numbers.boost)
    (MayWrite (interpretation_of c.args.numbers.interpretation) c.args.input.now)
    (HasNoVersion c.args.numbers.version (level_of c.args.numbers.level) (rule_of c.args.numbers.rule) (interpretation_of c.args.numbers.interpretation) c.args.input.now)
    c.in-Err.is refl (allowed at.Else-not-may_write) (may at.Else-not-may_write) (told at.In-Err))

-- ---- a symbol

version : (c : In-Ok) → IsVersion c.args.numbers.version (level_of c.args.numbers.level) (rule_of c.args.numbers.rule) (interpretation_of c.args.numbers.interpretation) c.args.input.now c.in-Ok.made.version
version c = subst (λ (s : Settings). IsVersion s.size.version s.size.level s.writing.rule s.writing.interpretation c.args.input.now c.in-Ok.made.version)
    c.in-Some.ensures.1 (version-asked _ _ _ _ _ _ _ _ _ _ c.in-Ok.ensures.symbol c.in-Ok.ensures.boosted)

-- two numbers of one level are equal
number-one : (m n : ℕ) → m < 4 → n < 4 → level_of m ≡ level_of n → m ≡ n
number-one m n p q e = grind arith

pub returns-in-Ok-clause-symbol : goal.returns-in-Ok-clause-symbol
returns-in-Ok-clause-symbol c =
    let m = c.in-Ok.made in
    let x = c.args.input.now in
    let v = c.number.result in
    let k = c.number_of_level.result in
    let rule = rule_of c.args.numbers.rule in
    let how = interpretation_of c.args.numbers.interpretation in
    let read = subst (λ (s : Settings). IsReadBack m.version s.writing.rule s.writing.interpretation x m.matrix) c.in-Some.ensures.1 c.in-Ok.ensures.read in
    let version = sym c.number.ensures.value in
    let encoded : IsEncoded x c.args.numbers.version c.args.numbers.level c.args.numbers.rule c.args.numbers.interpretation c.args.numbers.boost m.matrix _ = record {
      settings = allowed (goal.at.returns-in-Ok-clause-symbol c).Else-not-may_write;
      level_in = c.number_of_level.ensures.in_range;
      made = λ plain.
          let is = subst (λ (s : Settings). (m.level ≡ s.size.level) × IsSymbol s.size.version s.size.level s.writing.rule s.writing.interpretation x m.version m.mask m.matrix)
          c.in-Some.ensures.1 (c.in-Ok.ensures.symbol (rw plain refl)) in (
            number-one k c.args.numbers.level c.number_of_level.ensures.in_range c.in-Some.ensures.0.level_in (c.number_of_level.ensures.same ∙ is.0),
            subst (λ (v : ℕ). IsSymbol c.args.numbers.version (level_of c.args.numbers.level) rule how x v m.mask m.matrix) version is.1,
          );
      boosted = λ boost.
          let is = subst (λ (s : Settings). IsBoostedSymbol s.size.version s.size.level s.writing.rule s.writing.interpretation x m.version m.level m.mask m.matrix)
          c.in-Some.ensures.1 (c.in-Ok.ensures.boosted (rw boost refl)) in
          subst (λ (l : Level). IsBoostedSymbol c.args.numbers.version (level_of c.args.numbers.level) rule how x v l m.mask m.matrix) (sym c.number_of_level.ensures.same)
          (subst (λ (v : ℕ). IsBoostedSymbol c.args.numbers.version (level_of c.args.numbers.level) rule how x v m.level m.mask m.matrix) version is);
      read = subst (λ (v : ℕ). IsReadBack v rule how x m.matrix) version read;
      side = c.side.ensures.value;
    } in (encoded, may (goal.at.returns-in-Ok-clause-symbol c).Else-not-may_write)

pub returns-in-Ok-clause-too_long : goal.returns-in-Ok-clause-too_long
returns-in-Ok-clause-too_long c =
    let is = version (goal.at.returns-in-Ok-clause-too_long c).In-Ok in
    (λ h. absurd (not-refused _ _ 2 refl h), λ w. absurd (w.3 c.in-Ok.made.version is.least is.most is.fits))
