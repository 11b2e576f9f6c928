-- What the steps of encoding yield for the bytes `x` at level `l`. `smallest` is the least version that is tried,
-- `rule` determines the allowed modes, and `i` how the bytes are to be interpreted.
use Rattle.std.specs.Prelude.{◌≡◌, ◌≢◌, ◌<◌, ◌↔◌, ◌⊎◌, ℕ, List, [], length, Result, Err, IfErr}
use Rattle.qr_layout.specs.declared.level.Level.{Level}
use Rattle.qr_bits.specs.declared.modes.Rule.{Rule}
use Rattle.qr_bits.specs.declared.segmentation.Segment.{Segment}
use Rattle.qr_bits.specs.declared.interpretation.Interpretation.{Interpretation}
use Rattle.qr_bits.specs.Segmentation.{IsLeastSegmentation}
use Rattle.qr_symbol.specs.declared.fault.EncodeFault.{EncodeFault}
use Rattle.qr_symbol.specs.declared.fault.EncodeFault.TheVariants as fault
use Rattle.qr_symbol.specs.VersionChoice.{HasNoVersion, IsVersion}

-- `v` is the least version, from `smallest` on, that `x` fits. `segments` are the segments of fewest bits for `x` in
-- this version, and `characters` are the characters that they contain.
pub record IsFit (smallest : ℕ) (l : Level) (rule : Rule) (i : Interpretation) (x : List ℕ) (v : ℕ) (characters : List ℕ) (segments : List Segment) : Type 0 where
  pub version : IsVersion smallest l rule i x v
  pub chosen : IsLeastSegmentation i v rule x characters segments

-- The result `r` is `Empty` exactly if `x` is empty. If memory suffices, it is `TooLong` exactly if `x` fits no version
-- from `smallest` on. Even without enough memory it is `TooLong` if `x` has more than 7,089 bytes, which no symbol has
-- room for. The only other fault is `Memory`.
pub record IsRefusedExactly {X : Type 0} (smallest : ℕ) (l : Level) (rule : Rule) (i : Interpretation) (x : List ℕ) (r : Result X EncodeFault) : Type 0 where
  pub empty : (r ≡ Err fault.Empty) ↔ (x ≡ [])
  pub too_long : (r ≡ Err fault.TooLong) ↔ ((r ≢ Err fault.Memory) × HasNoVersion smallest l rule i x)
  pub long : 7089 < length x → r ≡ Err fault.TooLong
  pub fault : IfErr r (λ e. (e ≡ fault.Empty) ⊎ (e ≡ fault.TooLong) ⊎ (e ≡ fault.Memory))
