-- Which input is read from a device, and by how many reads.
use Rattle.std.specs.Prelude.{◌≡◌, ◌+◌, ◌≤◌, ℕ, List, take, Option, IfSome}
use Rattle.qr_bits.specs.declared.modes.TheConstants.{INPUT_MAX}
use Rattle.qr_devices.specs.declared.device.ReadCounts.{ReadCounts}
use Rattle.qr_devices.specs.declared.device.TheConstants.{INTERRUPTIONS_MAX}

-- `input` is what a run takes from a device: all bytes of the device, or the first `INPUT_MAX` if it has more. If
-- contracts do not know the bytes of the device, `input` may be any list of bytes [own]
abbrev pub IsInputOf : Option (List ℕ) → List ℕ → Type 0
IsInputOf bytes input = IfSome bytes (λ all. input ≡ take INPUT_MAX all)

-- There were at most 114,424 reads, and none after one that reached the end. They returned at most 113,425 bytes. At
-- most one of the reads failed, and at most 1,000 were interrupted [own]
pub record IsReadWithin (c : ReadCounts) : Type 0 where
  pub calls : c.calls ≤ INPUT_MAX + INTERRUPTIONS_MAX
  pub given : c.given ≤ INPUT_MAX
  pub ends : c.ends ≤ 1
  pub past_end : c.past_end ≡ 0
  pub failed : c.failed ≤ 1
  pub interrupted : c.interrupted ≤ INTERRUPTIONS_MAX + 1
