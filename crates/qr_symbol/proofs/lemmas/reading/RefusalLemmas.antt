-- A square is read as one content, or is refused for one reason.
use Rattle.{qr_bits.specs.{Bits.bits_of, Parsing.Content, declared.fault.ParseFault.ParseFault}, qr_layout.specs.declared.level.Level.Level}
use Rattle.{qr_matrix.specs.Grid.Grid, qr_symbol.proofs.lemmas.reading.{FormatLemmas.format-one, ReadLemmas.message-one}}
use Rattle.qr_symbol.specs.{Reading.{IsFormat, IsMessage, IsReading, IsOfVersion, IsParsedAs, IsUnread}, declared.fault.ReadFault.ReadFault}
use Rattle.std.{proofs.Common.{◌≡◌, ℕ, List, refl, inl, inr, sym, ◌∙◌, ◌⊎◌, arith}, specs.Prelude.{◌↔◌, MatchResult, Result, Ok, Err}}
use Rattle.qr_symbol.specs.declared.fault.ReadFault.TheVariants as fault

-- two faults are equal, or one of them is lack of memory
abbrev pub IsOneFault : ReadFault → ReadFault → Type 0
IsOneFault e f = (e ≡ fault.Memory) ⊎ ((f ≡ fault.Memory) ⊎ (e ≡ f))

-- at most one fault besides lack of memory holds
abbrev pub FaultsAreOne : (ReadFault → Type 0) → Type 0
FaultsAreOne U = (e f : ReadFault) → U e → U f → IsOneFault e f

-- a square has one version, level and mask, so its message does not depend on how they were found
pub moved : (g : Grid) (v w : ℕ) (l k : Level) (m n : ℕ) (d : List ℕ) → IsOfVersion g v → IsOfVersion g w → IsFormat g l m → IsFormat g k n → IsMessage v l m g d → (v ≡ w) × IsMessage w k n g d
moved g v w l k m n d s t f h i = let e = format-one g l k m n f h in search arith

-- a square has at most one outcome of parsing
gives-one : (g : Grid) (r q : Result Content ParseFault) → IsParsedAs g r → IsParsedAs g q → r ≡ q
gives-one g r q h k =
    let same = message-one h.version h.level h.mask g h.message k.message h.sized.least h.sized.most h.holds (moved g _ _ _ _ _ _ _ k.sized h.sized k.format h.format k.holds).1 in
    search (arith, bits_of)

-- a square that contains a message is refused only if the message cannot be parsed, or for lack of memory
refused : (g : Grid) (r : Result Content ParseFault) → IsParsedAs g r → (e : ReadFault) → IsUnread g e → (e ≡ fault.Memory) ⊎ ((x : ParseFault) × (e ≡ fault.Segments x) × (r ≡ Err x))
refused g r h fault.Memory u = inl refl
refused g r h fault.Side u = absurd (u h.version h.sized)
refused g r h fault.Format u = absurd (u.2 h.level h.mask h.format)
refused g r h fault.Check u = absurd (u.5 h.message (moved g _ u.0 _ u.2 _ u.3 _ h.sized u.1 h.format u.4 h.holds).1)
refused g r h (fault.Segments x) u = inr (x, refl, gives-one g r (Err x) h u.1)
refused g r h fault.Series u = absurd u

-- a square that is read is refused only for lack of memory
pub read-refused : (g : Grid) (p : Content) (e : ReadFault) → IsReading g p → IsUnread g e → e ≡ fault.Memory
read-refused g p e h u = elim (refused g (Ok p) h e u) [ inl m ↦ m | inr w ↦ (let x = w.2 in absurd (cc)) ]

-- a square whose message cannot be parsed is refused for that reason, or for lack of memory
parse-refused : (g : Grid) (x : ParseFault) (e : ReadFault) → IsParsedAs g (Err x) → IsUnread g e → (e ≡ fault.Memory) ⊎ (fault.Segments x ≡ e)
parse-refused g x e h u = elim (refused g (Err x) h e u) [ inl m ↦ inl m | inr w ↦ (inr (cc)) ]

-- two faults of the same square are equal, or one of them is lack of memory
pub refused-one : (g : Grid) → FaultsAreOne (IsUnread g)
refused-one g fault.Memory f a b = inl refl
refused-one g fault.Series f a b = absurd a
refused-one g (fault.Segments x) f a b = inr (parse-refused g x f a.1 b)
refused-one g e fault.Memory a b = inr (inl refl)
refused-one g e fault.Series a b = absurd b
refused-one g e (fault.Segments x) a b = elim (parse-refused g x e b.1 a) [ inl m ↦ inl m | inr q ↦ inr (inr (sym q)) ]
refused-one g fault.Side fault.Side a b = inr (inr refl)
refused-one g fault.Side f a b = absurd (a b.0 b.1)
refused-one g e fault.Side a b = absurd (b a.0 a.1)
refused-one g fault.Format fault.Check a b = absurd (a.2 b.2 b.3 b.4)
refused-one g fault.Check fault.Format a b = absurd (b.2 a.2 a.3 a.4)
refused-one g e f a b = inr (inr refl)

-- of the faults `Side` and `Format` at most one holds
pub stated-fault : (g : Grid) (e f : ReadFault) → (e ≡ fault.Side) ⊎ (e ≡ fault.Format) → (f ≡ fault.Side) ⊎ (f ≡ fault.Format) → IsUnread g e → IsUnread g f → e ≡ f
stated-fault g e f a b u w = elim (refused-one g e f u w) [
  | inl m ↦ absurd (elim a [ inl s ↦ (let t = sym m ∙ s in cc) | inr s ↦ (let t = sym m ∙ s in cc) ])
  | inr (inl m) ↦ absurd (elim b [ inl s ↦ (let t = sym m ∙ s in cc) | inr s ↦ (let t = sym m ∙ s in cc) ])
  | inr (inr q) ↦ q
]

-- if at most one fault besides lack of memory can hold, and none of these beside a value, a call returns such a fault
-- exactly if it holds, unless memory is refused
pub exactly : {T : Type 0} (P : T → Type 0) (U : ReadFault → Type 0) (r : Result T ReadFault) → MatchResult r P U
    → ((x : T) (e : ReadFault) → P x → U e → e ≡ fault.Memory)
    → FaultsAreOne U → (e : ReadFault) → (e ≡ fault.Memory → ⊥) → (r ≡ Err e) ↔ ((r ≡ Err fault.Memory → ⊥) × U e)
exactly P U (Ok x) h none one e other = ((λ k. absurd (cc)), (λ w. absurd (other (none x e h w.1))))
exactly P U (Err f) h none one e other = (
  (search arith),
  (λ w. elim (one e f w.1 h) [
    | inl a ↦ absurd (other a)
    | inr b ↦ search arith
  ]),
)
