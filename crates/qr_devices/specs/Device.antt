-- What each read, write or flush adds to the counts `c` of a device, and which counts show a fault. `returned` is the
-- result of the call. At most 999 interrupted reads or writes (EINTR) are tried again while one input is read or one
-- text is written.
use Rattle.std.specs.Prelude.{◌≡◌, ◌+◌, ◌-◌, ◌^◌, ◌≤◌, ◌++◌, ◌==◌, ◌||◌, ◌&&◌, ℕ, Bool, false, nat_lt, nat_le, min, max, List, drop, Option, Result, Ok, Err, MatchResult, is_ok, if◌then◌else◌}
use Rattle.std.specs.Io.KnownBytes.{Appends}
use Rattle.qr_devices.specs.declared.device.TheConstants.{INTERRUPTIONS_MAX}
use Rattle.qr_devices.specs.declared.device.Trouble.{Trouble}
use Rattle.qr_devices.specs.declared.device.Trouble.TheVariants.{Interrupted, Failed}
use Rattle.qr_devices.specs.declared.device.ReadCounts.{ReadCounts}
use Rattle.qr_devices.specs.declared.device.WriteCounts.{WriteCounts}

-- The number `n` as a count shows it. A count that has reached 2^64 - 1 does not grow further [own]
abbrev pub counted : ℕ → ℕ
counted n = min n (2 ^ 64 - 1)

-- The counts before the first read [own]
abbrev pub no_reads : ReadCounts
no_reads = record { calls = 0; failed = 0; interrupted = 0; given = 0; ends = 0; past_end = 0 }

-- The counts `c` when the result of a read has been added to them. The read had a buffer of `room` bytes, and its
-- result is a number of bytes, an interruption or a failure. If it returned no byte although `room` is not 0, it
-- reached the end, which is counted too [own]
abbrev pub read_returned : ℕ → Result ℕ Trouble → ReadCounts → ReadCounts
read_returned room (Ok n) c =
    record c { given = counted (c.given + n); ends = if n == 0 && nat_lt 0 room then counted (c.ends + 1) else c.ends }
read_returned room (Err Interrupted) c = record c { interrupted = counted (c.interrupted + 1) }
read_returned room (Err Failed) c = record c { failed = counted (c.failed + 1) }

-- The counts after a read. The call and its result are added to the counts `c`. If an earlier read reached the end,
-- this read is also counted as one past the end [own]
abbrev pub read_counted : ℕ → Result ℕ Trouble → ReadCounts → ReadCounts
read_counted room returned c = read_returned room returned (record c {
  calls = counted (c.calls + 1);
  past_end = if nat_lt 0 c.ends then counted (c.past_end + 1) else c.past_end;
})

-- The counts before the first write or flush [own]
abbrev pub no_writes : WriteCounts
no_writes = record {
  calls = 0;
  failed = 0;
  interrupted = 0;
  zeros = 0;
  taken = 0;
  offered = 0;
  flushes = 0;
  settled = false;
}

-- The counts `c` when the result of a write has been added to them. The write offered `len` bytes, and its result is
-- the number of accepted bytes, an interruption or a failure. If it accepted no byte although `len` is not 0, this is
-- counted as a zero [own]
abbrev pub write_returned : ℕ → Result ℕ Trouble → WriteCounts → WriteCounts
write_returned len (Ok n) c =
    record c { taken = counted (c.taken + n); zeros = if n == 0 && nat_lt 0 len then counted (c.zeros + 1) else c.zeros }
write_returned len (Err Interrupted) c = record c { interrupted = counted (c.interrupted + 1) }
write_returned len (Err Failed) c = record c { failed = counted (c.failed + 1) }

-- The counts after a write. The call and its result are added to the counts `c`. `offered` becomes the greatest number
-- of bytes that a write has offered so far. The device is not settled, since it was not flushed after this write [own]
abbrev pub write_counted : ℕ → Result ℕ Trouble → WriteCounts → WriteCounts
write_counted len returned c =
    write_returned len returned (record c { calls = counted (c.calls + 1); offered = max c.offered len; settled = false })

-- The counts after a flush. If the flush succeeded, the device is settled. Otherwise the flush is counted as failed,
-- even if it was only interrupted [own]
abbrev pub flush_counted : {T : Type 0} → Result T Trouble → WriteCounts → WriteCounts
flush_counted returned c = record c {
  calls = counted (c.calls + 1);
  failed = if is_ok returned then c.failed else counted (c.failed + 1);
  flushes = counted (c.flushes + 1);
  settled = is_ok returned;
}

-- The list `whole` begins with `prefix`, and may be equal to it [own]
abbrev pub IsBeginning : List ℕ → List ℕ → Type 0
IsBeginning prefix whole = (rest : List ℕ) × (prefix ++ rest ≡ whole)

-- `old` are the bytes that a device had accepted before some calls, and `new` are all bytes that it had accepted at the
-- end of these calls. If contracts know these bytes, the calls appended a prefix of `whole` [own]
abbrev pub AppendsBeginning : Option (List ℕ) → Option (List ℕ) → List ℕ → Type 0
AppendsBeginning old new whole = (prefix : List ℕ) × IsBeginning prefix whole × Appends old new prefix

-- The counts show a fault of the reader: a read failed, or at least 1,000 reads were interrupted [own]
abbrev pub is_read_fault : ReadCounts → Bool
is_read_fault c = nat_lt 0 c.failed || nat_le 1000 c.interrupted

-- The counts show a fault of the writer: a write or a flush failed, a write that offered at least one byte accepted
-- none, or at least 1,000 writes were interrupted [own]
abbrev pub is_write_fault : WriteCounts → Bool
is_write_fault c = nat_lt 0 c.failed || (nat_lt 0 c.zeros || nat_le 1000 c.interrupted)

-- At most one call failed, or was a write that accepted none of the offered bytes. At most 1,000 writes were
-- interrupted. This holds of the counts if writing stops at the first fault [own]
pub record IsWrittenWithin (c : WriteCounts) : Type 0 where
  pub faults : c.failed + c.zeros ≤ 1
  pub interrupted : c.interrupted ≤ INTERRUPTIONS_MAX + 1

-- What contracts see of a `Source`. `remaining` are the bytes that it has still to return, or `None` if contracts do
-- not know them [own]
pub record Reader : Type 0 where
  pub remaining : Option (List ℕ)
  pub counts : ReadCounts

-- What contracts see of a `Sink`. `taken` are the bytes that it has accepted, or `None` if contracts do not know them.
-- `buffer` is the number by which contracts know the borrowed buffer that it writes into, or 0 if it has none. `rest`
-- are the bytes of this buffer that it has not written yet [own]
pub record Writer : Type 0 where
  pub taken : Option (List ℕ)
  pub counts : WriteCounts
  pub buffer : ℕ
  pub rest : List ℕ

-- `old` are the bytes of a buffer that were not written before a write, and `new` those after it. The write returned
-- `r`: it wrote as many bytes as it accepted [own]
abbrev pub Overwrites : List ℕ → List ℕ → {E : Type 0} → Result ℕ E → Type 0
Overwrites old new r = MatchResult r (λ n. new ≡ drop n old) (λ _. new ≡ old)
