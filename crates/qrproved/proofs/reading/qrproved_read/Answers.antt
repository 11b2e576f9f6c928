use Rattle.{qr_bits.specs.Parsing.Content, qr_matrix.specs.Grid.Grid, qr_symbol.specs.Reading.{IsReading, IsUnread}}
use Rattle.qrproved.proofs.{lemmas.reading.{TellsFaults, refused, read, side-status, room-status}, reading.qrproved_read.Goals.{In-Err, In-Ok-read_symbol}}
use Rattle.qrproved.specs.{Modules.square_of_bytes, Reading.{IsSide, IsUnreadAt, HasMoreBytes}, Steps.Status.read_status}
use Rattle.std.proofs.Common.{rules, ℕ, ◌*◌, ◌<◌, length, ap, subst, sym, ◌∙◌, inl, inr, arith}
use Rattle.qrproved.proofs.reading.qrproved_read.Goals as goal

-- ---- a square that is refused

unread : (c : In-Err) → IsUnreadAt c.args.modules.now c.args.side c.in-Err.fault
unread c =
    let same = c.side-side.ensures.value ∙ sym c.in-Some.ensures.2 in
    ((omega (arith, (rw same at c.area.ensures))), subst (λ (g : Grid). IsUnread g c.in-Err.fault) (rw same at c.in-Ok.ensures) c.in-Err.ensures.read)

refusals : (c : In-Err) → TellsFaults (IsUnreadAt c.args.modules.now c.args.side) (read_status c.in-Err.fault)
refusals c =
    refused (IsUnreadAt c.args.modules.now c.args.side) c.in-Err.fault
    (λ e f x y. c.refusals_are_one.ensures.one (square_of_bytes c.args.side c.args.modules.now) e f x.1 y.1) (λ x. x.1)
    (unread c)

pub returns-in-Err-clause-side : goal.returns-in-Err-clause-side
returns-in-Err-clause-side c =
    let some = c.in-Some.ensures in
    let is : IsSide c.args.side = (c.in-Some.version, some.0, some.1, some.2) in
    rw c.read_status.ensures (side-status (IsUnreadAt c.args.modules.now c.args.side) c.in-Err.fault (IsSide c.args.side) is
    (unread (goal.at.returns-in-Err-clause-side c).In-Err)
    (λ x w. x.1 w.0 (record { least = w.1; most = w.2; side = w.3 })))

pub returns-in-Err-clause-room : goal.returns-in-Err-clause-room
returns-in-Err-clause-room c =
    let u = unread (goal.at.returns-in-Err-clause-room c).In-Err in
    let whole = u.0 in
    rw c.read_status.ensures (room-status c.in-Err.fault (IsSide c.args.side)
    (length c.args.modules.now < c.args.side * c.args.side)
    (HasMoreBytes c.args.modules.now c.args.side c.args.bytes.now)
    (λ q. omega (arith, whole))
    (λ w. c.refusals_are_one.ensures.read (square_of_bytes c.args.side c.args.modules.now) w.1.0 c.in-Err.fault w.1.1 u.1))

pub returns-in-Err-clause-format : goal.returns-in-Err-clause-format
returns-in-Err-clause-format c =
    rw c.read_status.ensures (refusals (goal.at.returns-in-Err-clause-format c).In-Err).format

pub returns-in-Err-clause-check : goal.returns-in-Err-clause-check
returns-in-Err-clause-check c = rw c.read_status.ensures (refusals (goal.at.returns-in-Err-clause-check c).In-Err).check

pub returns-in-Err-clause-segments : goal.returns-in-Err-clause-segments
returns-in-Err-clause-segments c =
    rw c.read_status.ensures (refusals (goal.at.returns-in-Err-clause-segments c).In-Err).segments

-- ---- a square that is read

found : (c : In-Ok-read_symbol) → IsReading (square_of_bytes c.args.side c.args.modules.now) c.in-Ok-read_symbol.parsed
found c = search (rules, read)

statuses : (c : In-Ok-read_symbol) (status : ℕ) → status < 8
    → TellsFaults (IsUnreadAt c.args.modules.now c.args.side) status
statuses c status small =
    read (IsUnreadAt c.args.modules.now c.args.side) status small (λ e u. (c.refusals_are_one.ensures.read (square_of_bytes c.args.side c.args.modules.now) c.in-Ok-read_symbol.parsed) e (found c) u.1)

pub returns-clause-room : goal.returns-clause-room
returns-clause-room c =
    let same = c.side-side.ensures.value ∙ sym c.in-Some.ensures.2 in
    let r = found (goal.at.returns-clause-room c).In-Ok-read_symbol in
    let long = ap (λ (p : Content). length p.bytes) c.parsed.view_is in (
      λ h. absurd (omega arith),
      λ w. elim w.1 [
        | inl q ↦ absurd (omega (arith, (rw same at c.area.ensures)))
        | inr m ↦
            let more = m.1.1 in
            let one = c.contents_are_one.ensures (square_of_bytes c.args.side c.args.modules.now) more.0 c.in-Ok-read_symbol.parsed more.1 r in
            absurd (omega (arith, ap (λ (p : Content). length p.bytes) one, long, more.2, c.len-len.ensures))
      ],
    )

pub returns-then-bytes-len-clause-format : goal.returns-then-bytes-len-clause-format
returns-then-bytes-len-clause-format c =
    (statuses (goal.at.returns-then-bytes-len-clause-format c).In-Ok-read_symbol 6 (omega arith)).format

pub returns-then-bytes-len-clause-check : goal.returns-then-bytes-len-clause-check
returns-then-bytes-len-clause-check c =
    (statuses (goal.at.returns-then-bytes-len-clause-check c).In-Ok-read_symbol 6 (omega arith)).check

pub returns-then-bytes-len-clause-segments : goal.returns-then-bytes-len-clause-segments
returns-then-bytes-len-clause-segments c =
    (statuses (goal.at.returns-then-bytes-len-clause-segments c).In-Ok-read_symbol 6 (omega arith)).segments

pub returns-clause-format : goal.returns-clause-format
returns-clause-format c = (statuses (goal.at.returns-clause-format c).In-Ok-read_symbol 0 (omega arith)).format

pub returns-clause-check : goal.returns-clause-check
returns-clause-check c = (statuses (goal.at.returns-clause-check c).In-Ok-read_symbol 0 (omega arith)).check

pub returns-clause-segments : goal.returns-clause-segments
returns-clause-segments c = (statuses (goal.at.returns-clause-segments c).In-Ok-read_symbol 0 (omega arith)).segments
