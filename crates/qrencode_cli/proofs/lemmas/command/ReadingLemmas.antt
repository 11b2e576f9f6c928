-- The invariant of the loop that reads the input.
use Rattle.std.proofs.Common.{◌≡◌, ◌+◌, ◌<◌, ◌≤◌, ◌++◌, ℕ, List, [], false, length, length-append, take, Option, Some, None, Ok, Err, arith, refl, append-nil, inl, inr, ◌⊎◌, ◌-◌, min}
use Rattle.std.proofs.{lemmas.List.take_all, lemmas.List.take-append-le, lemmas.List.length-take, lemmas.List.length-take-le, lemmas.Bool.false≢true, Math.Seq.take-append_seam, KnownBytes.Consumes-trans}
use Rattle.{qr_bits.specs.declared.modes.TheConstants.INPUT_MAX, std.specs.Io.KnownBytes.{Consumes, IsAtEnd}}
use Rattle.qrencode_cli.specs.{Input.{IsInputOf, IsReadWithin}, Steps.Command.{HasRead, StopsReading}}
use Rattle.qrencode_cli.specs.declared.fault.Fault.TheVariants as fault
use Rattle.qr_devices.specs.Device.{Reader, is_read_fault, no_reads, read_counted}
use Rattle.qr_devices.specs.declared.device.{ReadCounts.ReadCounts, Trouble.{Trouble, TheVariants.Failed}}

-- the counts of a device that started at 0, after `len` bytes and this number of interruptions
pub record IsCounted (c : ReadCounts) (len interrupted : ℕ) : Type 0 where
  pub failed : c.failed ≡ 0
  pub interrupted_is : c.interrupted ≡ interrupted
  pub calls : c.calls ≤ len + interrupted
  pub given : c.given ≡ len
  pub ends : c.ends ≡ 0
  pub past_end : c.past_end ≡ 0

-- the state of the reading after these bytes and this number of interruptions
pub record IsReading (old new : Reader) (bytes : List ℕ) (interrupted : ℕ) : Type 0 where
  pub given : Consumes old.remaining new.remaining bytes
  pub bounded : length bytes ≤ INPUT_MAX
  pub few : interrupted ≤ 999
  pub counted : old.counts ≡ no_reads → IsCounted new.counts (length bytes) interrupted

-- bytes that were read are the input if the device has no more, or if they are `INPUT_MAX`
IsInputOf-read : (a b : Option (List ℕ)) (bytes : List ℕ) → Consumes a b bytes → length bytes ≤ INPUT_MAX
    → IsAtEnd b ⊎ (INPUT_MAX ≤ length bytes) → IsInputOf a bytes
IsInputOf-read None b bytes p low end = tt
IsInputOf-read (Some x) None bytes p low end = absurd p
IsInputOf-read (Some x) (Some y) bytes p low (inl end) = cc (append-nil bytes, take_all INPUT_MAX bytes low)
IsInputOf-read (Some x) (Some y) bytes p low (inr high) =
    let len : length bytes ≡ INPUT_MAX = omega arith in cc (take-append_seam bytes y)

-- counts without a fault are within bounds
counted-well : (c : ReadCounts) (len i : ℕ) → len ≤ INPUT_MAX → i ≤ 999 → IsCounted c len i → (is_read_fault c ≡ false) × IsReadWithin c
counted-well c len i short few k = search arith

-- one more read, into the first bytes of a chunk, returned some bytes
module _ (old a b : Reader) (bytes buf chunk : List ℕ) (n i most room : ℕ) (h : IsReading old a bytes i) (some : n ≡ 0 → ⊥)
    (le : n ≤ length buf) (q : Consumes a.remaining b.remaining (take n buf))
    (e : b.counts ≡ read_counted (length buf) (Ok n) a.counts) (small : length bytes < INPUT_MAX)
    (is : room ≡ min most (INPUT_MAX - length bytes)) (first : length buf ≡ length (take room chunk)) where
  -- after one more read its bytes stand after those that were read before
  pub reading-more : (rest more : List ℕ) → more ≡ bytes ++ take n (buf ++ rest) → IsReading old b more i
  reading-more rest more m =
      search (arith, length-take, length-append, length-take-le, take-append-le, Consumes-trans)

  -- if memory for the bytes of this read is refused, reading stops with lack of memory
  pub stops-memory : StopsReading old b fault.Memory
  stops-memory =
      let r = reading-more [] _ refl in
      search (arith, counted-well, false≢true)

-- if the read failed, or was interrupted for the 1,000th time, reading stops with a read fault
pub stops-read : (old a b : Reader) (bytes : List ℕ) (len i : ℕ) (t : Trouble) → IsReading old a bytes i
    → length bytes < INPUT_MAX → (t ≡ Failed) ⊎ (i ≡ 999) → b.counts ≡ read_counted len (Err t) a.counts → StopsReading old b fault.Read
stops-read old a b bytes len i t h small last e = grind arith

-- if `INPUT_MAX` bytes were read, the reader has returned the input
pub has-read-full : (old a : Reader) (bytes : List ℕ) (i : ℕ) → IsReading old a bytes i → INPUT_MAX ≤ length bytes → HasRead old a bytes
has-read-full old a bytes i h high = search (arith, IsInputOf-read, counted-well)

-- if a read reached the end of the device, the reader has returned the input
pub has-read-end : (old a b : Reader) (bytes buf : List ℕ) (n i : ℕ) → IsReading old a bytes i → n ≡ 0 →
    0 < length buf → length bytes < INPUT_MAX →
    Consumes a.remaining b.remaining (take n buf) × (n ≡ 0 → 0 < length buf → IsAtEnd b.remaining) →
    b.counts ≡ read_counted (length buf) (Ok n) a.counts → HasRead old b bytes
has-read-end old a b bytes buf n i h zero some small q e =
    let none : bytes ++ take n buf ≡ bytes = rw zero (append-nil bytes) in
    search (arith, IsInputOf-read, rw none at (Consumes-trans old.remaining a.remaining b.remaining bytes (take n buf) h.given q.0))
