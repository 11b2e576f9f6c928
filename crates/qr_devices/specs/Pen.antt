-- What a call that writes through a pen does. It changes the writer from `old` to `new` and the pen from `before` to
-- `after`, and returns `r`.
use Rattle.std.specs.Prelude.{ℕ, ◌++◌, List, Result, MatchResult}
use Rattle.qr_devices.specs.Device.{Writer}
use Rattle.qr_devices.specs.Writing.{Stops, Writes}
use Rattle.qr_devices.specs.declared.pen.DrawFault.{DrawFault}
use Rattle.qr_devices.specs.declared.pen.Pen.{Pen}

-- The call appends `text` to the bytes in the pen. If it succeeded, the writer accepted a prefix of all these bytes,
-- perhaps an empty one, and the pen contains the rest. Otherwise a fault of the writer ended the call, and until then
-- the writer had accepted a prefix of these bytes [own]
abbrev pub Puts : Writer → Writer → Pen → Pen → List ℕ → {T : Type 0} → Result T DrawFault → Type 0
Puts old new before after text r = MatchResult r
    (λ _. Writes old new before.interrupted after.interrupted (before.piece ++ text) after.piece)
    (λ _. Stops old new before.interrupted (before.piece ++ text))

-- The call makes room in the pen by writing bytes that are in it. If it succeeded, the writer accepted a prefix of
-- these bytes, perhaps an empty one, and the pen contains the rest. Otherwise a fault of the writer ended the call, and
-- until then the writer had accepted a prefix of these bytes [own]
abbrev pub Reserves : Writer → Writer → Pen → Pen → {T : Type 0} → Result T DrawFault → Type 0
Reserves old new before after r = MatchResult r
    (λ _. Writes old new before.interrupted after.interrupted before.piece after.piece)
    (λ _. Stops old new before.interrupted before.piece)
