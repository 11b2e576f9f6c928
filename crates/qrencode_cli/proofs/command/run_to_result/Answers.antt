use Rattle.std.{proofs.{Common.{◌∙◌, Ok, ap, inl, inr, map, option_map, refl, sym}, lemmas.Result.err_from_is_err_and}, specs.String.string_bytes}
use Rattle.{qrencode_cli.{specs.Steps.Command.Prepares, proofs.lemmas.command.RunningLemmas.{draws-part, draws-unflushed, draws-whole}}, qrencode_settings.specs.Settings.SettingsView}
use Rattle.qrencode_cli.proofs.lemmas.command.AskingLemmas.{prepares-reader, prepares-string, prepares-unread, prepares-usage}
use Rattle.qrencode_cli.proofs.command.run_to_result.{Given.Over, Goals.{Joined-settings, in-Some+in_ok-job-in-Some, in-None+in_ok-bytes-in-None+in_ok-job-in-None}}
use Rattle.qrencode_cli.proofs.command.run_to_result.Goals as goal

-- the job is the one that the arguments and the input ask for
prepared : (g : Over) (c : Joined-settings g) → Prepares (map string_bytes c.args.words.now) (g.R.Source.device c.args.input.now) (g.R.Source.device c.match-settings.input) (Ok c.match-settings.job)
prepared g c =
    let s = c.in_ok-settings in
    let string = sym (ap (λ (s : SettingsView). s.string) c.settings.view_is) in
    elim c.match-settings.branch [
      | in-Some+in_ok-job-in-Some w ↦ rw (w.job-is, w.input-is) (prepares-string _ s.settings s.ensures.settings _ _ _ _ _
          (string ∙ ap (option_map string_bytes) w.in-Some.is) w.as_bytes-bytes.ensures.value w.min.ensures w.in_ok-job-in-Some.ensures)
      | in-None+in_ok-bytes-in-None+in_ok-job-in-None w ↦ rw (w.job-is, w.input-is) (prepares-reader _ s.settings s.ensures.settings _ _ _ _ _
          (string ∙ ap (option_map string_bytes) w.in-None.is) w.as_slice.ensures.value w.in_ok-bytes-in-None.ensures w.in_ok-job-in-None.ensures)
    ]

pub returns-in_err-settings : goal.returns-in_err-settings
returns-in_err-settings g c =
    let p = err_from_is_err_and c.from_residual.result c.from_residual.ensures.1 in
    inr (_, rw (p.1, p.2) refl, prepares-usage _ _ _ c.in_err-settings.ensures.settings, refl)

pub returns-in_err-job-in-Some : goal.returns-in_err-job-in-Some
returns-in_err-job-in-Some g c =
    let p = err_from_is_err_and c.from_residual-in_err-job-in-Some.result c.from_residual-in_err-job-in-Some.ensures.1 in
    inr (
      _,
      rw (p.1, p.2) refl,
      prepares-string _ c.in_ok-settings.settings c.in_ok-settings.ensures.settings _ _ _ _ _
          (sym (ap (λ (s : SettingsView). s.string) c.settings.view_is) ∙ ap (option_map string_bytes) c.in-Some.is) c.as_bytes-bytes.ensures.value c.min.ensures c.in_err-job-in-Some.ensures,
      refl,
    )

pub returns-in_err-bytes-in-None : goal.returns-in_err-bytes-in-None
returns-in_err-bytes-in-None g c =
    let p = err_from_is_err_and c.from_residual-in_err-bytes-in-None.result c.from_residual-in_err-bytes-in-None.ensures.1 in
    inr (
      _,
      rw (p.1, p.2) refl,
      prepares-unread _ c.in_ok-settings.settings c.in_ok-settings.ensures.settings _ _ c.in_err-bytes-in-None.field-0.0
          (sym (ap (λ (s : SettingsView). s.string) c.settings.view_is) ∙ ap (option_map string_bytes) c.in-None.is) c.in_err-bytes-in-None.ensures,
      refl,
    )

pub returns-in_err-job-in-None : goal.returns-in_err-job-in-None
returns-in_err-job-in-None g c =
    let p = err_from_is_err_and c.from_residual-in_err-job-in-None.result c.from_residual-in_err-job-in-None.ensures.1 in
    inr (
      _,
      rw (p.1, p.2) refl,
      prepares-reader _ c.in_ok-settings.settings c.in_ok-settings.ensures.settings _ _ _ _ _
          (sym (ap (λ (s : SettingsView). s.string) c.settings.view_is) ∙ ap (option_map string_bytes) c.in-None.is) c.as_slice.ensures.value c.in_ok-bytes-in-None.ensures c.in_err-job-in-None.ensures,
      refl,
    )

pub returns-in_err-draw : goal.returns-in_err-draw
returns-in_err-draw g c =
    let p = err_from_is_err_and c.from_residual-in_err-draw.result c.from_residual-in_err-draw.ensures.1 in
    let d = c.in_err-draw.ensures in
    inl (c.match-settings.job, prepared g (goal.at.returns-in_err-draw g c).Joined-settings, rw (p.1, p.2, ← c.deref.ensures.value) (draws-part _ _ _ d.err d.fault d.most d.within d.offered d.flushes))

pub returns-then-is_err : goal.returns-then-is_err
returns-then-is_err g c =
    let d = c.in_ok-draw.ensures in
    inl (
      c.match-settings.job,
      prepared g (goal.at.returns-then-is_err g c).Joined-settings,
      rw (← c.deref.ensures.value) (draws-unflushed _ _ _ _ c.flush.result d.ok d.fault d.taken d.within d.offered d.flushes d.buffer d.rest
          c.flush.ensures.bytes c.flush.ensures.counted c.if-is_err.ensures.negation),
    )

pub returns : goal.returns
returns g c =
    let d = c.in_ok-draw.ensures in
    inl (
      c.match-settings.job,
      prepared g (goal.at.returns g c).Joined-settings,
      rw (← c.deref.ensures.value) (draws-whole _ _ _ _ c.flush.result d.ok d.fault d.taken d.within d.offered d.flushes d.buffer d.rest
          c.flush.ensures.bytes c.flush.ensures.counted c.if-is_err.ensures.negation),
    )
