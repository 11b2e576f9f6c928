use Rattle.std.proofs.Common.{◌≡◌, ◌≢◌, ◌↔◌, Result, Ok, Err, String, MatchResult, map, refl, rules}
use Rattle.std.{proofs.lemmas.Result.err_from_is_err_and, specs.{Global.Global, String.string_bytes}}
use Rattle.qrencode_settings.specs.Settings.{IsUsageFault, Reason, SettingsView, needs_version, refused_by_clap, settings_for, unknown_level, unknown_type}
use Rattle.qrencode_settings.specs.declared.settings.UsageFault.{UsageFault}
use Rattle.qrencode_settings.specs.declared.settings.UsageFault.TheVariants as usage
use Rattle.qrencode_settings.proofs.settings.options.Goals as goal

-- each fault comes exactly for its reason, unless memory is refused
record ComeExactly (o : Result SettingsView Reason) (r : Result SettingsView UsageFault) : Type 0 where
  words : ((text : String Global) × (r ≡ Err (usage.Words text))) ↔ ((r ≢ Err usage.Memory) × (o ≡ Err refused_by_clap))
  level : (r ≡ Err usage.Level) ↔ ((r ≢ Err usage.Memory) × (o ≡ Err unknown_level))
  kind : (r ≡ Err usage.Kind) ↔ ((r ≢ Err usage.Memory) × (o ≡ Err unknown_type))
  version : (r ≡ Err usage.NeedsVersion) ↔ ((r ≢ Err usage.Memory) × (o ≡ Err needs_version))

-- the arguments are refused exactly for the reasons that the definition gives
come-exactly : (o : Result SettingsView Reason) (r : Result SettingsView UsageFault) → MatchResult r (λ s. o ≡ Ok s) (IsUsageFault o) → ComeExactly o r
come-exactly o (Ok s) h = search rules
come-exactly o (Err usage.Memory) h = search rules
come-exactly o (Err (usage.Words text)) h = record {
  words = (λ _. (λ m. cc, h), λ (n, e). (text, refl));
  level = search rules;
  kind = search rules;
  version = search rules;
}
come-exactly o (Err usage.Level) h = search rules
come-exactly o (Err usage.Kind) h = search rules
come-exactly o (Err usage.NeedsVersion) h = search rules

pub returns : goal.returns
returns c =
    let m = c.in_ok-matches.ensures in
    let s = rw m.rows at c.settings_in.ensures in
    let e = come-exactly (settings_for (map string_bytes c.args.words.now)) c.settings_in.result (rw m.taken s) in
    record { settings = rw m.taken s; words = e.words; level = e.level; kind = e.kind; version = e.version }

pub returns-in_err-matches-clause-words : goal.returns-in_err-matches-clause-words
returns-in_err-matches-clause-words c =
    let p = err_from_is_err_and c.from_residual.result c.from_residual.ensures.1 in
    (come-exactly (settings_for (map string_bytes c.args.words.now)) c.from_residual.result (rw (p.1, p.2) c.in_err-matches.ensures.fault)).words
