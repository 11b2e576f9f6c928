-- How the size of a symbol with a logo is found. The letters have the meanings that they have in `specs/Encoding.antt`.
use Rattle.std.specs.Prelude.{◌≡◌, ◌≢◌, ◌<◌, ◌≤◌, ◌+◌, ◌↔◌, ◌⊎◌, ℕ, List, [], length, Result, Err, IfErr}
use Rattle.qr_layout.specs.Blocks.{capacity_of}
use Rattle.qr_layout.specs.declared.level.Level.{Level}
use Rattle.qr_layout.specs.declared.level.Level.TheVariants.{H}
use Rattle.qr_layout.specs.declared.size.Size.{Size}
use Rattle.qr_bits.specs.Modes.{count_width}
use Rattle.qr_bits.specs.declared.modes.Mode.{Mode}
use Rattle.qr_bits.specs.declared.modes.Rule.{Rule}
use Rattle.qr_bits.specs.declared.interpretation.Interpretation.{Interpretation}
use Rattle.qr_symbol.specs.VersionChoice.{FitsVersion, HasNoVersion, level_rank}
use Rattle.qr_logos.specs.Encoding.{IsLargestCarried}
use Rattle.qr_logos.specs.declared.fault.LogoFault.{LogoFault}
use Rattle.qr_logos.specs.declared.fault.LogoFault.TheVariants as fault

-- `x` takes `n` bits in version `u`, and in each version in which character count indicators have the same widths: it
-- fits these versions exactly if they have room for so many bits
abbrev pub AreNeeded : Rule → Interpretation → List ℕ → (u n : ℕ) → Type 0
AreNeeded rule i x u n = (v : ℕ) (l : Level) → 1 ≤ v → v ≤ 40 → ((m : Mode) → count_width v m ≡ count_width u m)
    → FitsVersion v l rule i x ↔ (n ≤ capacity_of v l)

-- The size `t` is tried after `s`: the next lower level, or after the lowest level that is asked for the highest level of
-- the next version
abbrev pub IsTriedAfter : Level → (s t : Size) → Type 0
IsTriedAfter lowest s t =
    ((t.version ≡ s.version) × (level_rank t.level + 1 ≡ level_rank s.level) × (level_rank lowest ≤ level_rank t.level))
    ⊎ ((t.version ≡ s.version + 1) × (t.version ≤ 40) × (t.level ≡ H) × (s.level ≡ lowest))

-- Each fault is returned exactly if its cause applies. If memory is refused, it is `Memory`
pub record AreLogoFaults {X : Type 0} (smallest : ℕ) (lowest : Level) (rule : Rule) (i : Interpretation) (x : List ℕ) (share k : ℕ) (r : Result X LogoFault) : Type 0 where
  pub empty : (r ≡ Err fault.Empty) ↔ (x ≡ [])
  pub too_long : (r ≡ Err fault.TooLong) ↔ ((r ≢ Err fault.Memory) × HasNoVersion smallest lowest rule i x)
  pub long : 7089 < length x → r ≡ Err fault.TooLong
  pub logo : (n : ℕ) → (r ≡ Err (fault.Logo n)) ↔ ((r ≢ Err fault.Memory) × (x ≢ []) × IsLargestCarried smallest lowest rule i x share n × (n < k))
  pub fault : IfErr r (λ e. (e ≡ fault.Empty) ⊎ (e ≡ fault.TooLong) ⊎ ((n : ℕ) × (e ≡ fault.Logo n)) ⊎ (e ≡ fault.Memory))
