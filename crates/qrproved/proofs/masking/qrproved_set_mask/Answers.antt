use Rattle.{qr_matrix.specs.Grid.Grid, qr_symbol.specs.{Reading.{IsFormat, IsUnread}, Redrawing.IsRedrawn, declared.fault.ReadFault.ReadFault}}
use Rattle.qrproved.proofs.{lemmas.{modules.one-held, reading.{TellsFaults, refused, side-status}}, masking.qrproved_set_mask.Goals.In-Err}
use Rattle.qrproved.specs.{Modules.square_of_bytes, Reading.{IsSide, IsUnreadAt}, Steps.Status.read_status}
use Rattle.std.proofs.Common.{◌≡◌, ℕ, ap, subst, sym, ◌∙◌, arith, rules}
use Rattle.qrproved.proofs.masking.qrproved_set_mask.Goals as goal

third : {A B C : Type 0} → A × B × C → C
third w = w.2

-- ---- a square that is refused

unread : (c : In-Err) → IsUnreadAt c.args.modules.now c.args.side c.in-Err.fault
unread c =
    let same = c.side-side.ensures.value ∙ sym c.in-Some-version_of_side.ensures.2 in
    ((omega (arith, (rw same at c.area.ensures))), subst (λ (g : Grid). IsUnread g c.in-Err.fault) (rw same at c.in-Ok.ensures) c.in-Err.ensures.unread)

refusals : (c : In-Err) → TellsFaults (IsUnreadAt c.args.modules.now c.args.side) (read_status c.in-Err.fault)
refusals c =
    refused (IsUnreadAt c.args.modules.now c.args.side) c.in-Err.fault
    (λ e f x y. c.refusals_are_one.ensures.one (square_of_bytes c.args.side c.args.modules.now) e f x.1 y.1) (λ x. x.1)
    (unread c)

pub returns-in-Err-clause-side : goal.returns-in-Err-clause-side
returns-in-Err-clause-side c =
    let some = c.in-Some-version_of_side.ensures in
    let is : IsSide c.args.side = (c.in-Some-version_of_side.version, some.0, some.1, some.2) in
    let s = side-status (IsUnreadAt c.args.modules.now c.args.side) c.in-Err.fault (IsSide c.args.side) is
    (unread (goal.at.returns-in-Err-clause-side c).In-Err)
    (λ x w. x.1 w.0 (record { least = w.1; most = w.2; side = w.3 })) in
    rw c.read_status.ensures (λ h. (omega arith, s.0 h), λ w. s.1 w.1)

pub returns-in-Err-clause-format : goal.returns-in-Err-clause-format
returns-in-Err-clause-format c =
    let f = (refusals (goal.at.returns-in-Err-clause-format c).In-Err).format in
    rw c.read_status.ensures (λ h. let k = f.0 h in (k.0, omega arith, k.1), λ w. f.1 (w.0, third w))

-- ---- a square that is drawn once more

pub returns-clause-done : goal.returns-clause-done
returns-clause-done c _ =
    let same = c.side-side.ensures.value ∙ sym c.in-Some-version_of_side.ensures.2 in
    let here = rw same at c.in-Ok.ensures in
    let r = c.in-Ok-with_mask.ensures.drawn in
    let d = c.in-Ok-with_mask.drawn in (
      omega arith,
      record {
        whole = omega (arith, (rw same at c.area.ensures));
        square = d;
        drawn = subst (λ (g : Grid). IsRedrawn g c.args.mask d) here (subst (λ (m : ℕ). IsRedrawn c.in-Ok.matrix m d) c.in-Some.ensures.1 r);
        holds = one-held c.args.side d c.args.modules.now c.write_square.new.bytes
            (omega (arith, ap (λ (g : Grid). g.side) r.drawn, r.sized.side, ap (λ (g : Grid). g.side) here))
            (omega (arith, (rw same at c.area.ensures))) (search rules) c.write_square.ensures.modules c.write_square.ensures.others;
      },
    )

pub returns-clause-format : goal.returns-clause-format
returns-clause-format c =
    let same = c.side-side.ensures.value ∙ sym c.in-Some-version_of_side.ensures.2 in
    let r = c.in-Ok-with_mask.ensures.drawn in (
      λ h. absurd (omega arith),
      λ w. let u = third w in absurd (u.1.2 r.level r.former (subst (λ (g : Grid). IsFormat g r.level r.former) (rw same at c.in-Ok.ensures) r.format)),
    )
