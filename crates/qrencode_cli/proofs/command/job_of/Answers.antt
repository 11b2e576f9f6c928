use Rattle.qr_bits.specs.declared.interpretation.Interpretation.TheVariants.{Default}
use Rattle.std.{proofs.{Common.{◌≡◌, ◌∙◌, List, ℕ, ap, subst, sym, arith, rules, Err, Ok}, lemmas.Result.err_from_is_err_and}, specs.Cow.cow_slice_items}
use Rattle.qr_symbol.specs.{declared.fault.EncodeFault.{EncodeFault, TheVariants.Empty}, VersionChoice.HasNoVersion}
use Rattle.{qrencode_cli.specs.{Command.held, Symbols.{rule_for, smallest_of}, Steps.Command.AreDrawnFor}, qrencode_settings.specs.Settings.SettingsView}
use Rattle.qrencode_cli.proofs.lemmas.command.AskingLemmas.{drawn-for-one, drawn-for-series, told-one}
use Rattle.qrencode_cli.proofs.command.job_of.Goals.{Joined-settings-3, Joined-settings-4, else-settings-4+in_ok-symbol+in_ok-symbols-2, then-settings-4+in_ok-symbols}
use Rattle.qrencode_cli.proofs.command.job_of.Goals as goal

-- the rule is that of the settings
rule : (c : Joined-settings-3) → c.if-settings.rule ≡ rule_for c.args.settings.now
rule c = search rules

-- the symbols contain `held` of the input
input : (c : Joined-settings-3) (items : List ℕ) → items ≡ cow_slice_items c.if-settings-3.held → items ≡ held c.args.settings.now c.args.input.now
input c items is = search (rules, rule)

-- the symbols are those that the settings ask for
drawn : (c : Joined-settings-4) → c.if-settings.rule ≡ rule_for c.args.settings.now
    → ((items : List ℕ) → items ≡ cow_slice_items c.if-settings-3.held → items ≡ held c.args.settings.now c.args.input.now) → AreDrawnFor c.args.settings.now (held c.args.settings.now c.args.input.now) c.if-settings-4.symbols.items
drawn c same is =
    elim c.if-settings-4.branch [
      | then-settings-4+in_ok-symbols w ↦
          rw (w.symbols-is, ← is _ w.deref.ensures.value) (subst (λ (s : SettingsView). AreDrawnFor s w.deref.result.now w.in_ok-symbols.symbols.items) c.settings.view_is
          (drawn-for-series _ _ _ _ _ w.if-settings-4.true (omega arith) (omega arith) c.unwrap_or-version.ensures (search rules)
          (λ none. let bad : Ok w.in_ok-symbols.symbols ≡ Err Empty = w.in_ok-symbols.ensures.empty.1 none in cc)
          w.in_ok-symbols.ensures.series w.in_ok-symbols.ensures.joined))
      | else-settings-4+in_ok-symbol+in_ok-symbols-2 w ↦
          rw (w.symbols-is, ← is _ w.deref-else-settings-4.ensures.value) (subst (λ (s : SettingsView). AreDrawnFor s w.deref-else-settings-4.result.now w.in_ok-symbols-2.symbols.items) c.settings.view_is
          (drawn-for-one _ _ _ _ w.in_ok-symbol.symbol _ w.if-settings-4.false (omega arith) c.unwrap_or-version.ensures (search rules)
          (λ none. let bad : Ok w.in_ok-symbol.symbol ≡ Err Empty = w.in_ok-symbol.ensures.empty.1 none in cc)
          w.in_ok-symbol.ensures.symbol w.in_ok-symbol.ensures.read w.in_ok-symbols-2.ensures.items))
    ]

pub returns-in_err-symbol : goal.returns-in_err-symbol
returns-in_err-symbol c =
    let p = err_from_is_err_and c.from_residual-in_err-symbol.result c.from_residual-in_err-symbol.ensures.1 in
    let is = input (goal.at.returns-in_err-symbol c).Joined-settings-3 _ c.deref-else-settings-4.ensures.value in
    let same = rule (goal.at.returns-in_err-symbol c).Joined-settings-3 in
    let smallest : c.unwrap_or-version.result ≡ smallest_of c.args.settings.now = search rules in
    let one = sym (ap (λ (s : SettingsView). s.structured) c.settings.view_is) ∙ c.if-settings-4.false in
    rw (p.1, p.2, ← is) (told-one c.args.settings.now c.deref-else-settings-4.result.now c.in_err-symbol.field-0.0 one
    (λ e. c.in_err-symbol.ensures.empty.0 (ap (λ (f : EncodeFault). Err f) e))
    (λ e. subst (λ (s : SettingsView). HasNoVersion (smallest_of s) s.level (rule_for s) Default c.deref-else-settings-4.result.now) c.settings.view_is
    (rw (← c.unwrap_or-version.ensures, ← (same ∙ ap rule_for (sym c.settings.view_is))) (c.in_err-symbol.ensures.too_long.0 (ap (λ (f : EncodeFault). Err f) e)).1))
    c.in_err-symbol.ensures.fault)

pub invariant_of-result : goal.invariant_of-result
invariant_of-result c =
    let before = (goal.at.invariant_of-result c).Joined-settings-3 in
    let d = drawn (goal.at.invariant_of-result c).Joined-settings-4 (rule before) (input before) in
    record { some = d.some; few = d.few; one_side = d.one_side }

pub returns : goal.returns
returns c =
    let before = (goal.at.returns c).Joined-settings-3 in
    let d = drawn (goal.at.returns c).Joined-settings-4 (rule before) (input before) in
    search (rules, d)
