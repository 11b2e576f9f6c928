use Rattle.{qr_bits.specs.Parsing.Content, qr_layout.specs.Blocks.{correctable_of, spare_of}, qr_mending.specs.{Mending.IsMendedReading, declared.mending.Mended.Mended}}
use Rattle.qrproved.proofs.lemmas.mending.{all-modules, few-changes, given-mended, more-bytes, no-other}
use Rattle.qrproved.proofs.{lemmas.reading.{TellsFaults, refused, read, side-status, room-status}, mending.qrproved_mend.Goals.{In-Err, In-Ok}}
use Rattle.qrproved.specs.{Mending.{square_of_unknown, AreModules, HasMoreMendedBytes, IsUnmendedAt}, Modules.square_of_bytes, Reading.IsSide}
use Rattle.{qrproved.specs.Steps.Status.read_status, std.proofs.Common.{rules, ◌≡◌, ℕ, ◌*◌, ◌<◌, ◌∙◌, length, ap, inl, inr, refl, arith, sym}}
use Rattle.qrproved.proofs.mending.qrproved_mend.Goals as goal

-- ---- a square that cannot be mended

unmended : (c : In-Err) → IsUnmendedAt c.args.modules.now c.args.side c.in-Err.fault
unmended c =
    let same = c.side-side.ensures.value ∙ sym c.in-Some.ensures.2 in
    ((all-modules c.args.modules.now c.args.side c.area-area.result (rw same at c.area-area.ensures) c.if-modules-area.false c.if-not-are_modules.ensures), rw same at c.in-Err.ensures.mended)

refusals : (c : In-Err) → TellsFaults (IsUnmendedAt c.args.modules.now c.args.side) (read_status c.in-Err.fault)
refusals c =
    refused (IsUnmendedAt c.args.modules.now c.args.side) c.in-Err.fault
    (search rules) (λ x. x.1) (unmended c)

pub returns-in-Err-clause-side : goal.returns-in-Err-clause-side
returns-in-Err-clause-side c =
    let some = c.in-Some.ensures in
    let is : IsSide c.args.side = (c.in-Some.version, some.0, some.1, some.2) in
    rw c.read_status.ensures (side-status (IsUnmendedAt c.args.modules.now c.args.side) c.in-Err.fault (IsSide c.args.side) is
    (unmended (goal.at.returns-in-Err-clause-side c).In-Err)
    (λ x w. x.1 w.0 (record { least = w.1; most = w.2; side = w.3 })))

pub returns-in-Err-clause-room : goal.returns-in-Err-clause-room
returns-in-Err-clause-room c =
    let same = c.side-side.ensures.value ∙ sym c.in-Some.ensures.2 in
    let u = unmended (goal.at.returns-in-Err-clause-room c).In-Err in
    rw c.read_status.ensures (room-status c.in-Err.fault (IsSide c.args.side)
    (length c.args.modules.now < c.args.side * c.args.side)
    (HasMoreMendedBytes c.args.modules.now c.args.side c.args.bytes.now)
    (λ q. omega (arith, (rw same at c.area-area.ensures)))
    (λ w.
    let read = w.1.1 in
    c.mended_readings_are_not_refused.ensures _ _ read.0 read.1 read.2 w.1.0 read.3 c.in-Err.fault read.4 u.1))

pub returns-in-Err-clause-format : goal.returns-in-Err-clause-format
returns-in-Err-clause-format c =
    rw c.read_status.ensures (refusals (goal.at.returns-in-Err-clause-format c).In-Err).format

pub returns-in-Err-clause-check : goal.returns-in-Err-clause-check
returns-in-Err-clause-check c = rw c.read_status.ensures (refusals (goal.at.returns-in-Err-clause-check c).In-Err).check

pub returns-in-Err-clause-segments : goal.returns-in-Err-clause-segments
returns-in-Err-clause-segments c =
    rw c.read_status.ensures (refusals (goal.at.returns-in-Err-clause-segments c).In-Err).segments

-- ---- a square that is mended

modules : (c : In-Ok) → AreModules c.args.modules.now c.args.side
modules c =
    let same = c.side-side.ensures.value ∙ sym c.in-Some.ensures.2 in
    all-modules c.args.modules.now c.args.side c.area-area.result (rw same at c.area-area.ensures)
    c.if-modules-area.false c.if-not-are_modules.ensures

found : (c : In-Ok) → let m = c.in-Ok.found in IsMendedReading (square_of_unknown c.args.side c.args.modules.now)
    (square_of_bytes c.args.side c.args.modules.now) m.version m.level m.mask m.parsed m.changed.items
found c = let same = c.side-side.ensures.value ∙ sym c.in-Some.ensures.2 in rw same at c.in-Ok.ensures.mended

-- the square was mended, so it has no fault that a status could tell
statuses : (c : In-Ok) (status : ℕ) → status < 8 → TellsFaults (IsUnmendedAt c.args.modules.now c.args.side) status
statuses c status small =
    let m = c.in-Ok.found in
    read (IsUnmendedAt c.args.modules.now c.args.side) status small
    (λ e u. c.mended_readings_are_not_refused.ensures _ _ m.version m.level m.mask m.parsed m.changed.items e (found c) u.1)

pub returns-then-bytes-len-clause-room : goal.returns-then-bytes-len-clause-room
returns-then-bytes-len-clause-room c =
    let a = (goal.at.returns-then-bytes-len-clause-room c).In-Ok in
    let some = c.in-Some.ensures in
    let is : IsSide c.args.side = (c.in-Some.version, some.0, some.1, some.2) in
    let m = c.in-Ok.found in
    let same-len = ap (λ (z : Mended). length z.parsed.bytes) c.found.view_is in
    let long : c.len-len.result ≡ length m.parsed.bytes = omega (arith, c.len-len.ensures, same-len) in
    let more = more-bytes c.args.modules.now c.args.side c.args.bytes.now m c.len-len.result (modules a) (found a) long
    c.if-bytes-len.true in
    (λ _. (is, inr ((λ k. absurd (omega arith)), more)), λ _. refl)

pub mended_of-requires-clause-few : goal.mended_of-requires-clause-few
mended_of-requires-clause-few c =
    let m = c.in-Ok.found in
    let r = found (goal.at.mended_of-requires-clause-few c).In-Ok in
    let bounds = c.changes_are_bounded.ensures in
    few-changes m.changed.items (correctable_of m.version m.level) (spare_of m.version m.level)
    (bounds.correctable m.version m.level r.form.sized.least r.form.sized.most).1
    (bounds.spare m.version m.level r.form.sized.least r.form.sized.most)
    (bounds.few _ _ m.version m.level m.mask m.parsed m.changed.items r)
    (bounds.spent _ _ m.version m.level m.mask m.parsed m.changed.items r)

pub returns-else-bytes-len-clause-done : goal.returns-else-bytes-len-clause-done
returns-else-bytes-len-clause-done c =
    let a = (goal.at.returns-else-bytes-len-clause-done c).In-Ok in
    let same = c.side-side.ensures.value ∙ sym c.in-Some.ensures.2 in
    let m = c.in-Ok.found in
    let same-len = ap (λ (z : Mended). length z.parsed.bytes) c.found.view_is in
    let long : c.len-len.result ≡ length m.parsed.bytes = omega (arith, c.len-len.ensures, same-len) in
    let same-bytes = ap (λ (z : Mended). z.parsed.bytes) c.found.view_is in
    let put = c.copy_from_slice.ensures.after ∙ (c.deref.ensures.value ∙ same-bytes) in
    let t = c.mended_of.ensures in
    let same-ecis = ap (λ (z : Mended). z.parsed.ecis) c.found.view_is in
    λ _. given-mended c.args.modules.now c.args.side c.args.bytes.now c.copy_from_slice.new.self c.args.ecis.now c.write_ecis.new.out m c.mended_of.result
    c.len-len.result (record {
      all = modules a;
      read = found a;
      format = rw same at c.in-Ok.ensures.format;
      least = rw same at c.in-Ok.ensures.least;
      whole = rw same at c.in-Ok.ensures.modules;
    }) long c.if-bytes-len.false put t.len (record {
      wrong_modules = t.wrong_modules;
      version = t.version;
      header = t.header;
      number = t.number;
      level = t.level;
      mask = t.mask;
      wrong_format_modules = t.wrong_format_modules;
      wrong_format_least = t.wrong_format_least;
      most = t.most;
      spent = t.spent;
      worst = t.worst;
      allowed = t.allowed;
    }) (record {
      ecis = search arith;
      count = t.count;
      position = t.position;
      kanji = t.kanji;
    })

pub returns-else-bytes-len-clause-room : goal.returns-else-bytes-len-clause-room
returns-else-bytes-len-clause-room c =
    let r = found (goal.at.returns-else-bytes-len-clause-room c).In-Ok in
    let same = c.side-side.ensures.value ∙ sym c.in-Some.ensures.2 in
    let m = c.in-Ok.found in
    let same-len = ap (λ (z : Mended). length z.parsed.bytes) c.found.view_is in
    let long : c.len-len.result ≡ length m.parsed.bytes = omega (arith, c.len-len.ensures, same-len) in (
      λ h. absurd (omega arith),
      λ w. elim w.1 [
        | inl q ↦ absurd (omega (arith, (rw same at c.area-area.ensures)))
        | inr k ↦
            let more = k.1.1 in
            let read = more.1 in
            let one = c.mended_readings_are_one.ensures _ _ read.0 m.version read.1 m.level read.2 m.mask more.0
            m.parsed read.3 m.changed.items read.4 r in
            absurd (omega (arith, ap (λ (p : Content). length p.bytes) one.3, long, more.2))
      ],
    )

pub returns-then-bytes-len-clause-settings : goal.returns-then-bytes-len-clause-settings
returns-then-bytes-len-clause-settings c =
    let all = modules (goal.at.returns-then-bytes-len-clause-settings c).In-Ok in
    (λ h. absurd (omega arith), λ w. absurd (no-other c.args.modules.now c.args.side all w.1))

pub returns-then-bytes-len-clause-format : goal.returns-then-bytes-len-clause-format
returns-then-bytes-len-clause-format c =
    (statuses (goal.at.returns-then-bytes-len-clause-format c).In-Ok 6 (omega arith)).format

pub returns-then-bytes-len-clause-check : goal.returns-then-bytes-len-clause-check
returns-then-bytes-len-clause-check c =
    (statuses (goal.at.returns-then-bytes-len-clause-check c).In-Ok 6 (omega arith)).check

pub returns-then-bytes-len-clause-segments : goal.returns-then-bytes-len-clause-segments
returns-then-bytes-len-clause-segments c =
    (statuses (goal.at.returns-then-bytes-len-clause-segments c).In-Ok 6 (omega arith)).segments

pub returns-else-bytes-len-clause-settings : goal.returns-else-bytes-len-clause-settings
returns-else-bytes-len-clause-settings c =
    let all = modules (goal.at.returns-else-bytes-len-clause-settings c).In-Ok in
    (λ h. absurd (omega arith), λ w. absurd (no-other c.args.modules.now c.args.side all w.1))

pub returns-else-bytes-len-clause-format : goal.returns-else-bytes-len-clause-format
returns-else-bytes-len-clause-format c =
    (statuses (goal.at.returns-else-bytes-len-clause-format c).In-Ok 0 (omega arith)).format

pub returns-else-bytes-len-clause-check : goal.returns-else-bytes-len-clause-check
returns-else-bytes-len-clause-check c =
    (statuses (goal.at.returns-else-bytes-len-clause-check c).In-Ok 0 (omega arith)).check

pub returns-else-bytes-len-clause-segments : goal.returns-else-bytes-len-clause-segments
returns-else-bytes-len-clause-segments c =
    (statuses (goal.at.returns-else-bytes-len-clause-segments c).In-Ok 0 (omega arith)).segments
