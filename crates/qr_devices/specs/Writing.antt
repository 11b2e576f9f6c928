-- What happens to the writer while a part of a text is written. The writer is `old` before this, and `new` after it.
use Rattle.std.specs.Prelude.{◌≡◌, ◌≤◌, ◌<◌, ◌+◌, ◌^◌, ◌++◌, ℕ, max, drop, length, List, true}
use Rattle.std.specs.Io.KnownBytes.{Appends}
use Rattle.qr_devices.specs.Device.{AppendsBeginning, IsWrittenWithin, Writer, counted, is_write_fault}
use Rattle.qr_devices.specs.declared.device.WriteCounts.{WriteCounts}

-- The counts `c` of a writer show no fault, and `interrupted` is the number of interrupted writes that they show. It is
-- less than 1,000, since the 1,000th interrupted write is a fault [own]
pub record IsWell (c : WriteCounts) (interrupted : ℕ) : Type 0 where
  pub failed : c.failed ≡ 0
  pub zeros : c.zeros ≡ 0
  pub count : c.interrupted ≡ interrupted
  pub few : interrupted < 1000

-- The writer accepted a prefix of `text`, and wrote it to its buffer, if it has one. `held` is the rest of `text` [own]
pub record Sends (old new : Writer) (text held : List ℕ) : Type 0 where
  pub sent : List ℕ
  pub grows : Appends old.taken new.taken sent
  pub whole : sent ++ held ≡ text
  pub many : old.counts.taken < 2 ^ 64 → new.counts.taken ≡ counted (old.counts.taken + length sent)
  pub rest : new.rest ≡ drop (length sent) old.rest

-- The writer accepted a prefix of `text`, and `held`, which is the rest of `text`, is in the pen. No write offered more
-- than 1,200 bytes, there was no flush, and the writer kept its buffer. If the counts showed no fault and `interrupted` interrupted writes before,
-- they show no fault and `interruptions` interrupted writes afterwards [own]
pub record Writes (old new : Writer) (interrupted interruptions : ℕ) (text held : List ℕ) : Type 0 where
  pub sends : Sends old new text held
  pub well : IsWell old.counts interrupted → IsWell new.counts interruptions
  pub offered : new.counts.offered ≤ max old.counts.offered 1200
  pub flushes : new.counts.flushes ≡ old.counts.flushes
  pub buffer : new.buffer ≡ old.buffer

-- A fault of the writer ended the writing. Until then the writer had accepted a prefix of `text`, perhaps all of it. No
-- write offered more than 1,200 bytes, there was no flush, and the writer kept its buffer. If the counts showed no fault
-- and `interrupted` interrupted writes before, they now show one call with a fault, or 1,000 interrupted writes [own]
pub record Stops (old new : Writer) (interrupted : ℕ) (text : List ℕ) : Type 0 where
  pub prefix : AppendsBeginning old.taken new.taken text
  pub most : old.counts.taken < 2 ^ 64 → new.counts.taken ≤ counted (old.counts.taken + length text)
  pub fault : IsWell old.counts interrupted → is_write_fault new.counts ≡ true
  pub within : IsWell old.counts interrupted → IsWrittenWithin new.counts
  pub offered : new.counts.offered ≤ max old.counts.offered 1200
  pub flushes : new.counts.flushes ≡ old.counts.flushes
  pub buffer : new.buffer ≡ old.buffer
