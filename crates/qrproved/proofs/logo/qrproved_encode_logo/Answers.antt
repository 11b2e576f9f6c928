use Rattle.qr_bits.specs.Interpretation.{MayWrite}
use Rattle.qr_symbol.specs.{Reading.IsReadBack, VersionChoice.HasNoVersion}
use Rattle.qr_logos.{proofs.Facts.size-fits, specs.{Encoding.{IsLogoSymbol}, Steps.Encoding.AreLogoFaults}}
use Rattle.qr_layout.specs.{Version.side_of, declared.level.Level.Level}
use Rattle.qrproved.proofs.lemmas.{encoding.refused-some, logo.{size-apart, size-one}, modules.one-held}
use Rattle.qrproved.specs.{Logo.{AreLogoSettings, IsLargestForLogo}, Settings.{interpretation_of, level_of, rule_of}, declared.settings.Settings.Settings}
use Rattle.std.proofs.Common.{◌≡◌, ◌*◌, ℕ, [], Err, refl, ap, subst, ◌∙◌, arith, rules}
use Rattle.qrproved.proofs.logo.qrproved_encode_logo.Goals.{After-encode_with_logo, After-long_inputs_have_none, Else-not-may_write, In-Err-Logo, In-Err-TooLong, In-Ok}
use Rattle.qrproved.proofs.logo.qrproved_encode_logo.Goals as goal
use Rattle.qr_logos.specs.declared.fault.LogoFault.TheVariants as fault

-- ---- the numbers are allowed, and the input may be written

allowed : (c : Else-not-may_write) → AreLogoSettings c.args.version c.args.level c.args.rule c.args.interpretation c.args.logo c.args.share
allowed c = (c.in-Some.ensures.0, c.in-Some-between.ensures.0.1, c.in-Some-between-2.ensures.0.1)

may : (c : Else-not-may_write) → MayWrite (interpretation_of c.args.interpretation) c.args.input.now
may c = search rules

pub returns-then-not-may_write-clause-empty : goal.returns-then-not-may_write-clause-empty
returns-then-not-may_write-clause-empty c = (λ h. absurd (omega arith), λ w. absurd (search (rules, refused-some)))

-- ---- an input that is longer than every symbol holds

none : (c : After-long_inputs_have_none) (l : Level) → HasNoVersion c.args.version l (rule_of c.args.rule) (interpretation_of c.args.interpretation) c.args.input.now
none c l =
    let law = c.long_inputs_have_none.ensures.symbol c.args.input.now l (rule_of c.args.rule) (interpretation_of c.args.interpretation) in
    λ v least most fits. law (omega arith) v (search rules) most fits

pub returns-then-input-gt-INPUT_MAX-clause-too_long : goal.returns-then-input-gt-INPUT_MAX-clause-too_long
returns-then-input-gt-INPUT_MAX-clause-too_long c =
    let at = goal.at.returns-then-input-gt-INPUT_MAX-clause-too_long c in
    (λ _. (λ m. absurd (omega arith), allowed at.Else-not-may_write, may at.Else-not-may_write, none at.After-long_inputs_have_none (level_of c.args.level)), λ _. refl)

pub returns-then-input-gt-INPUT_MAX-clause-logo : goal.returns-then-input-gt-INPUT_MAX-clause-logo
returns-then-input-gt-INPUT_MAX-clause-logo c =
    let at = goal.at.returns-then-input-gt-INPUT_MAX-clause-logo c in (
      λ h. absurd (omega arith),
      λ w. let largest = w.4.1.0 in
          absurd (none at.After-long_inputs_have_none largest.level largest.version largest.carries.least largest.carries.most largest.carries.fits),
    )

pub returns-then-input-gt-INPUT_MAX-clause-room : goal.returns-then-input-gt-INPUT_MAX-clause-room
returns-then-input-gt-INPUT_MAX-clause-room c =
    let at = goal.at.returns-then-input-gt-INPUT_MAX-clause-room c in (
      λ h. absurd (omega arith),
      λ w. let size = w.4.fits in
          absurd (none at.After-long_inputs_have_none w.4.highest w.4.least size.carries.least size.carries.most size.carries.fits),
    )

-- ---- a refusal

told : (c : After-encode_with_logo) → AreLogoFaults c.args.version (level_of c.args.level) (rule_of c.args.rule) (interpretation_of c.args.interpretation) c.args.input.now c.args.share c.args.logo c.encode_with_logo.result
told c =
    let r = c.encode_with_logo.result in
    let share = c.in-Some-between-2.percent in
    let side = c.in-Some-between.logo_side in
    let e = c.encode_with_logo.ensures in
    subst (λ (k : ℕ). AreLogoFaults c.args.version (level_of c.args.level) (rule_of c.args.rule) (interpretation_of c.args.interpretation) c.args.input.now c.args.share k r) c.in-Some-between.ensures.1
    (subst (λ (p : ℕ). AreLogoFaults c.args.version (level_of c.args.level) (rule_of c.args.rule) (interpretation_of c.args.interpretation) c.args.input.now p side r) c.in-Some-between-2.ensures.1
    (subst (λ (s : Settings). AreLogoFaults s.size.version s.size.level s.writing.rule s.writing.interpretation c.args.input.now share side r) c.in-Some.ensures.1 (record {
      empty = e.empty;
      too_long = e.too_long;
      long = e.long;
      logo = e.logo;
      fault = e.fault;
    })))

pub returns-in-Err-Empty-clause-too_long : goal.returns-in-Err-Empty-clause-too_long
returns-in-Err-Empty-clause-too_long c =
    let is : c.encode_with_logo.result ≡ Err fault.Empty = cc (c.in-Err-Empty.is, c.in-Err-Empty.field-0-is) in
    let t = told (goal.at.returns-in-Err-Empty-clause-too_long c).After-encode_with_logo in
    (λ h. absurd (omega arith), λ w. let q = t.too_long.1 (λ m. cc (m, is), w.3) in absurd (cc (q, is)))

too-long : (c : In-Err-TooLong) → c.encode_with_logo.result ≡ Err fault.TooLong
too-long c = cc (c.in-Err-TooLong.is, c.in-Err-TooLong.field-0-is)

pub returns-in-Err-TooLong-clause-too_long : goal.returns-in-Err-TooLong-clause-too_long
returns-in-Err-TooLong-clause-too_long c =
    let at = goal.at.returns-in-Err-TooLong-clause-too_long c in
    let none = (told at.After-encode_with_logo).too_long.0 (too-long at.In-Err-TooLong) in
    (λ _. (λ m. absurd (omega arith), allowed at.Else-not-may_write, may at.Else-not-may_write, none.1), λ _. refl)

pub returns-in-Err-TooLong-clause-logo : goal.returns-in-Err-TooLong-clause-logo
returns-in-Err-TooLong-clause-logo c =
    let at = goal.at.returns-in-Err-TooLong-clause-logo c in
    let is = too-long at.In-Err-TooLong in
    (λ h. absurd (omega arith), λ w. let q = ((told at.After-encode_with_logo).logo w.4.0).1 (λ m. cc (m, is), w.2, w.4.1.0, w.4.1.1) in absurd (cc (q, is)))

pub returns-in-Err-TooLong-clause-room : goal.returns-in-Err-TooLong-clause-room
returns-in-Err-TooLong-clause-room c =
    let at = goal.at.returns-in-Err-TooLong-clause-room c in
    let none = (told at.After-encode_with_logo).too_long.0 (too-long at.In-Err-TooLong) in
    (λ h. absurd (omega arith), λ w. absurd (size-fits c.args.version (level_of c.args.level) (rule_of c.args.rule) (interpretation_of c.args.interpretation) c.args.input.now c.args.share c.args.logo w.4.least w.4.highest c.in-Some.ensures.0.first w.4.fits none.1))

no-logo : (c : In-Err-Logo) → c.encode_with_logo.result ≡ Err (fault.Logo c.in-Err-Logo.most)
no-logo c = cc (c.in-Err-Logo.is, c.in-Err-Logo.field-0-is, c.in-Err-Logo.most-is)

pub returns-in-Err-Logo-clause-told : goal.returns-in-Err-Logo-clause-told
returns-in-Err-Logo-clause-told c =
    let at = goal.at.returns-in-Err-Logo-clause-told c in
    let w = ((told at.After-encode_with_logo).logo c.in-Err-Logo.most).0 (no-logo at.In-Err-Logo) in
    λ _. (w.2, w.3)

pub returns-in-Err-Logo-clause-too_long : goal.returns-in-Err-Logo-clause-too_long
returns-in-Err-Logo-clause-too_long c =
    let at = goal.at.returns-in-Err-Logo-clause-too_long c in
    let is = no-logo at.In-Err-Logo in
    (λ h. absurd (omega arith), λ w. let q = (told at.After-encode_with_logo).too_long.1 (λ m. cc (m, is), w.3) in absurd (cc (q, is)))

pub returns-in-Err-Logo-clause-logo : goal.returns-in-Err-Logo-clause-logo
returns-in-Err-Logo-clause-logo c =
    let at = goal.at.returns-in-Err-Logo-clause-logo c in
    let w = ((told at.After-encode_with_logo).logo c.in-Err-Logo.most).0 (no-logo at.In-Err-Logo) in
    (λ _. (λ m. absurd (omega arith), allowed at.Else-not-may_write, w.1, may at.Else-not-may_write, (c.in-Err-Logo.most, (w.2, w.3))), λ _. refl)

pub returns-in-Err-Logo-clause-room : goal.returns-in-Err-Logo-clause-room
returns-in-Err-Logo-clause-room c =
    let at = goal.at.returns-in-Err-Logo-clause-room c in
    let w = ((told at.After-encode_with_logo).logo c.in-Err-Logo.most).0 (no-logo at.In-Err-Logo) in
    (λ h. absurd (omega arith), λ h. absurd (size-apart c.args.version (level_of c.args.level) (rule_of c.args.rule) (interpretation_of c.args.interpretation) c.args.input.now c.args.share c.args.logo h.4.least h.4.highest c.in-Err-Logo.most h.4.fits (w.2, w.3)))

-- ---- a symbol

made : (c : In-Ok) → IsLogoSymbol c.args.version (level_of c.args.level) (rule_of c.args.rule) (interpretation_of c.args.interpretation) c.args.input.now c.args.share c.args.logo c.in-Ok.made.version c.in-Ok.made.level c.in-Ok.made.mask c.in-Ok.made.matrix
made c =
    let m = c.in-Ok.made in
    let share = c.in-Some-between-2.percent in
    let side = c.in-Some-between.logo_side in
    subst (λ (k : ℕ). IsLogoSymbol c.args.version (level_of c.args.level) (rule_of c.args.rule) (interpretation_of c.args.interpretation) c.args.input.now c.args.share k m.version m.level m.mask m.matrix) c.in-Some-between.ensures.1
    (subst (λ (p : ℕ). IsLogoSymbol c.args.version (level_of c.args.level) (rule_of c.args.rule) (interpretation_of c.args.interpretation) c.args.input.now p side m.version m.level m.mask m.matrix) c.in-Some-between-2.ensures.1
    (subst (λ (s : Settings). IsLogoSymbol s.size.version s.size.level s.writing.rule s.writing.interpretation c.args.input.now share side m.version m.level m.mask m.matrix)
    c.in-Some.ensures.1 c.in-Ok.ensures.symbol))

-- the input is neither too long nor without a size
fits : (c : In-Ok) → HasNoVersion c.args.version (level_of c.args.level) (rule_of c.args.rule) (interpretation_of c.args.interpretation) c.args.input.now → ⊥
fits c = size-fits c.args.version (level_of c.args.level) (rule_of c.args.rule) (interpretation_of c.args.interpretation) c.args.input.now c.args.share c.args.logo c.in-Ok.made.version c.in-Ok.made.level c.in-Some.ensures.0.first (made c).size

apart : (c : In-Ok) → (n : ℕ) → IsLargestForLogo c.args.input.now c.args.version c.args.level c.args.rule c.args.interpretation c.args.logo c.args.share n → ⊥
apart c n h = size-apart c.args.version (level_of c.args.level) (rule_of c.args.rule) (interpretation_of c.args.interpretation) c.args.input.now c.args.share c.args.logo c.in-Ok.made.version c.in-Ok.made.level n (made c).size h

-- the side of the symbol
side : (c : In-Ok) → c.in-Ok.made.matrix.side ≡ side_of c.in-Ok.made.version
side c = ap (λ g. g.side) (made c).symbol.made.drawn

pub returns-then-modules-area-clause-too_long : goal.returns-then-modules-area-clause-too_long
returns-then-modules-area-clause-too_long c =
    (λ h. absurd (omega arith), λ w. absurd (fits (goal.at.returns-then-modules-area-clause-too_long c).In-Ok w.3))

pub returns-then-modules-area-clause-logo : goal.returns-then-modules-area-clause-logo
returns-then-modules-area-clause-logo c =
    (λ h. absurd (omega arith), λ w. absurd (apart (goal.at.returns-then-modules-area-clause-logo c).In-Ok w.4.0 w.4.1))

pub returns-then-modules-area-clause-room : goal.returns-then-modules-area-clause-room
returns-then-modules-area-clause-room c =
    let at = goal.at.returns-then-modules-area-clause-room c in
    let none : c.args.input.now ≡ [] → ⊥ = λ e. let q = (told at.After-encode_with_logo).empty.1 e in cc (q, c.in-Ok.is) in
    let area : c.area.result ≡ side_of c.in-Ok.made.version * side_of c.in-Ok.made.version =
    c.area.ensures ∙ ap (λ (n : ℕ). n * n) (c.side-side.ensures.value ∙ side at.In-Ok) in (
      λ _. (
        λ m. absurd (omega arith),
        allowed at.Else-not-may_write,
        none,
        may at.Else-not-may_write,
        record {
          least = c.in-Ok.made.version;
          highest = c.in-Ok.made.level;
          fits = (made at.In-Ok).size;
          room = omega (arith, area, c.if-modules-area.true);
        },
      ),
      λ _. refl,
    )

pub returns-else-modules-area-clause-done : goal.returns-else-modules-area-clause-done
returns-else-modules-area-clause-done c _ =
    let at = goal.at.returns-else-modules-area-clause-done c in
    let m = c.in-Ok.made in
    let read = subst (λ (s : Settings). IsReadBack m.version s.writing.rule s.writing.interpretation c.args.input.now m.matrix) c.in-Some.ensures.1 c.in-Ok.ensures.read in
    record {
      settings = allowed at.Else-not-may_write;
      square = m.matrix;
      level_in = c.number_of_level.ensures.in_range;
      made = rw (c.number.ensures.value, c.number_of_level.ensures.same) (made at.In-Ok);
      read = rw c.number.ensures.value read;
      side = c.side-side.ensures.value;
      holds = one-held c.side-side.result m.matrix c.args.modules.now c.write_square.new.bytes c.side-side.ensures.value
          (omega (arith, c.area.ensures, c.if-modules-area.false)) (search rules) c.write_square.ensures.modules c.write_square.ensures.others;
    }

pub returns-else-modules-area-clause-too_long : goal.returns-else-modules-area-clause-too_long
returns-else-modules-area-clause-too_long c =
    (λ h. absurd (omega arith), λ w. absurd (fits (goal.at.returns-else-modules-area-clause-too_long c).In-Ok w.3))

pub returns-else-modules-area-clause-logo : goal.returns-else-modules-area-clause-logo
returns-else-modules-area-clause-logo c =
    (λ h. absurd (omega arith), λ w. absurd (apart (goal.at.returns-else-modules-area-clause-logo c).In-Ok w.4.0 w.4.1))

pub returns-else-modules-area-clause-room : goal.returns-else-modules-area-clause-room
returns-else-modules-area-clause-room c =
    let at = goal.at.returns-else-modules-area-clause-room c in (
      λ h. absurd (omega arith),
      λ w.
          let same = size-one c.args.version (level_of c.args.level) (rule_of c.args.rule) (interpretation_of c.args.interpretation) c.args.input.now c.args.share c.args.logo c.in-Ok.made.version w.4.least c.in-Ok.made.level w.4.highest (made at.In-Ok).size w.4.fits in
          let area : c.area.result ≡ side_of w.4.least * side_of w.4.least =
          c.area.ensures ∙ ap (λ (n : ℕ). n * n) (c.side-side.ensures.value ∙ side at.In-Ok ∙ ap side_of same) in
          absurd (omega (arith, area, c.if-modules-area.false, w.4.room)),
    )
