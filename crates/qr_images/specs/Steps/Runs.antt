-- What happens to the writer and to a run while digits are appended. The writer is `old` before a call and `new` after
-- it.
use Rattle.std.specs.Prelude.{◌≡◌, ℕ, List, ◌++◌, Result, MatchResult}
use Rattle.qr_devices.specs.Device.{Writer}
use Rattle.qr_devices.specs.Writing.{Stops, Writes}
use Rattle.qr_devices.specs.declared.pen.DrawFault.{DrawFault}
use Rattle.qr_devices.specs.declared.pen.Pen.{Pen}
use Rattle.qr_images.specs.Packing.{runs_from}

-- What was to come, if `rest` follows, is `earlier rest` before and `later rest` after: the difference was written. The
-- pen had the bytes `held` and has the bytes `kept`, and the counts of interrupted writes were `i` and are `j`
pub record WentOn (old new : Writer) (i j : ℕ) (held kept : List ℕ) (earlier later : List ℕ → List ℕ) : Type 0 where
  pub text : List ℕ
  pub writes : Writes old new i j (held ++ text) kept
  pub goes : (rest : List ℕ) → earlier rest ≡ text ++ later rest

-- The call appends digits to a run of `n` digits `d`, and the last run has `m` digits `e` then. If it fails, the writer
-- had accepted a prefix of what is in the pen and of all runs, whatever follows
abbrev pub PutsDigits : Writer → Writer → Pen → Pen → ℕ → ℕ → ℕ → ℕ → List ℕ → {T : Type 0} → Result T DrawFault → Type 0
PutsDigits old new before after d n e m digits r = MatchResult r
    (λ _. WentOn old new before.interrupted after.interrupted before.piece after.piece (λ rest. runs_from d n (digits ++ rest)) (λ rest. runs_from e m rest))
    (λ _. (rest : List ℕ) → Stops old new before.interrupted (before.piece ++ runs_from d n (digits ++ rest)))
