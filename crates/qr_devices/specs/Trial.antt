-- A trial device `t` is a reader or writer in memory, for tests. The definitions say what it contains, and how it
-- misbehaves.
use Rattle.std.specs.Prelude.{ℕ, ◌-◌, min, max, nat_lt, nat_le, List, length, drop, Result, Ok, Err, if◌then◌else◌}
use Rattle.qr_devices.specs.declared.device.Trouble.{Trouble}
use Rattle.qr_devices.specs.declared.device.Trouble.TheVariants.{Interrupted, Failed}
use Rattle.qr_devices.specs.declared.trial.Faults.{Faults}
use Rattle.qr_devices.specs.declared.trial.Trial.{Trial}

-- The bytes that are still to be read from the device [own]
abbrev pub bytes_left : Trial → List ℕ
bytes_left t = drop t.position t.bytes.items

-- The bytes that the device holds: of a reader all its bytes, whether they were read or not, and of a writer the bytes
-- that it accepted [own]
abbrev pub bytes_held : Trial → List ℕ
bytes_held t = t.bytes.items

-- What a read or write returns on a device with the faults `m`. `call` is the number of the read among all reads, or of
-- the write among all writes and flushes, counted from 0. At most `there` bytes can be moved. The result is an
-- interruption if `call` is below `interruptions`, and otherwise a failure if `call` is at least `fails_from`. In all
-- other cases as many bytes are moved as `there` and `at_most` allow. An `at_most` of 0 counts as 1 [own]
abbrev pub moved : Faults → ℕ → ℕ → Result ℕ Trouble
moved m call there =
    if nat_lt call m.interruptions then Err Interrupted else
    (if nat_le m.fails_from call then Err Failed else Ok (min there (max m.at_most 1)))

-- How many more bytes can be written to the device. Writes and flushes are numbered together, from 0. From the call
-- with the number `stops_from` on, the device has room for no byte [own]
abbrev pub free_of : Trial → ℕ
free_of t = if nat_lt t.writes.calls t.faults.stops_from then t.room - length t.bytes.items else 0
