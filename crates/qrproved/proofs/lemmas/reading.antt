-- What the statuses mean for a square that is refused, and for one that is read. `At f`: the square has the fault f.
use Rattle.{qr_bits.specs.declared.fault.ParseFault.ParseFault, qr_layout.specs.Version.side_of}
use Rattle.{qr_symbol.{proofs.Facts.FaultsAreOne, specs.declared.fault.ReadFault.ReadFault}, qrproved.specs.{Reading.IsSide, Steps.Status.read_status}}
use Rattle.std.proofs.Common.{◌≡◌, ◌≢◌, ◌↔◌, ◌⊎◌, ℕ, ◌<◌, ◌≤◌, Option, None, Some, MatchOption, sym, ◌∙◌, ap, subst, inl, inr, arith}
use Rattle.qr_symbol.specs.declared.fault.ReadFault.TheVariants as unread

-- if a version has `n` rows, it has `side` rows, since both numbers are equal
pub version-of : (o : Option ℕ) (n side : ℕ) → n ≡ side
    → MatchOption o ((v : ℕ) → 1 ≤ v → v ≤ 40 → n ≡ side_of v → ⊥) (λ v. (1 ≤ v) × (v ≤ 40) × (n ≡ side_of v))
    → MatchOption o (IsSide side → ⊥) (λ v. (1 ≤ v) × (v ≤ 40) × (side ≡ side_of v))
version-of None n side e none = λ w. none w.0 w.1 w.2 (e ∙ w.3)
version-of (Some v) n side e is = (is.0, is.1, sym e ∙ is.2)

-- the fault of each status
record HasStatus (f : ReadFault) (status : ℕ) : Type 0 where
  memory : f ≡ unread.Memory → status ≡ 4
  room : status ≢ 6
  side : status ≡ 7 → f ≡ unread.Side
  format : status ≡ 8 → f ≡ unread.Format
  check : status ≡ 9 → f ≡ unread.Check
  segments : status ≡ 10 → (f ≡ unread.Series → ⊥) → (why : ParseFault) × (f ≡ unread.Segments why)

-- the status that a call returns for a fault tells which fault it is
has-status : (f : ReadFault) → HasStatus f (read_status f)
has-status unread.Memory = search arith
has-status unread.Side = search arith
has-status unread.Format = search arith
has-status unread.Check = search arith
has-status (unread.Segments why) = search arith
has-status unread.Series = search arith

-- the statuses 8 to 10 are those of the faults that the square has
pub record TellsFaults (At : ReadFault → Type 0) (status : ℕ) : Type 0 where
  pub format : (status ≡ 8) ↔ ((status ≢ 4) × At unread.Format)
  pub check : (status ≡ 9) ↔ ((status ≢ 4) × At unread.Check)
  pub segments : (status ≡ 10) ↔ ((status ≢ 4) × ((why : ParseFault) × At (unread.Segments why)))

-- if the status is not that of lack of memory, the fault is the one that the square has
same-status : (At : ReadFault → Type 0) (f e : ReadFault) → FaultsAreOne At → At f → At e →
    read_status f ≢ 4 → (e ≡ unread.Memory → ⊥) → read_status f ≡ read_status e
same-status At f e one u w other known = elim (one f e u w) [
  | inl h ↦ absurd (other ((has-status f).memory h))
  | inr (inl h) ↦ absurd (known h)
  | inr (inr h) ↦ ap read_status h
]

-- if reading the square failed with the fault f, the status of f tells the faults that the square has
pub refused : (At : ReadFault → Type 0) (f : ReadFault) → FaultsAreOne At → (At unread.Series → ⊥) → At f
    → TellsFaults At (read_status f)
refused At f one never u =
    let is = has-status f in
    record {
      format = (
        λ h. (search arith),
        λ w. same-status At f unread.Format one u w.1 w.0 (λ e. cc),
      );
      check = (
        λ h. (search arith),
        λ w. same-status At f unread.Check one u w.1 w.0 (λ e. cc),
      );
      segments = (
        λ h. let e = is.segments h (λ e. never (subst At e u)) in (λ m. absurd (omega arith), (e.0, subst At e.1 u)),
        λ w. same-status At f (unread.Segments w.1.0) one u w.1.1 w.0 (λ e. cc),
      );
    }

-- a square that is read has no fault except lack of memory
pub read : (At : ReadFault → Type 0) (status : ℕ) → status < 8 →
    ((e : ReadFault) → At e → e ≡ unread.Memory) → TellsFaults At status
read At status small none = search arith

-- ---- the statuses of the side and of the buffers

pub side-status : (At : ReadFault → Type 0) (f : ReadFault) (P : Type 0) → P → At f →
    (At unread.Side → P → ⊥) → (read_status f ≡ 7) ↔ (P → ⊥)
side-status At f P p u apart = search (arith, has-status)

pub room-status : (f : ReadFault) (P Q R : Type 0) → (Q → ⊥) → (R → f ≡ unread.Memory)
    → (read_status f ≡ 6) ↔ (P × (Q ⊎ ((read_status f ≢ 4) × R)))
room-status f P Q R none read = search (arith, has-status, read)
