-- What the statuses mean for an input that is not encoded, and which version and side its symbol has.
use Rattle.qr_bits.{proofs.Facts.may_write-none, specs.{Interpretation.MayWrite, declared.{interpretation.Interpretation.Interpretation, modes.Rule.Rule}}}
use Rattle.{qr_layout.specs.{Version.side_of, declared.level.Level.Level}, qr_matrix.specs.Grid.Grid}
use Rattle.{qr_symbol.specs.{Encoding.{IsBoostedSymbol, IsSymbol}, VersionChoice.IsVersion}, std.proofs.Common.{◌≡◌, ◌≢◌, ◌↔◌, ◌⊎◌, ℕ, Bool, true, false, List, [], Result, Ok, Err, refl, ap, arith}}
use Rattle.{qr_symbol.specs.declared.fault.EncodeFault.EncodeFault, qrproved.specs.Steps.Status.encode_status}
use Rattle.{qr_symbol.proofs.Facts.version-one, std.proofs.Common.{◌<◌, ◌≤◌, ◌∙◌, inl, inr, length}, std.proofs.lemmas.Bool.cases_lt}
use Rattle.qrproved.specs.{Encoding.{IsEncoded, LacksRoom}, Settings.{interpretation_of, level_of, rule_of}, declared.encoding.QrprovedSymbol.QrprovedSymbol}
use Rattle.qr_symbol.specs.declared.fault.EncodeFault.TheVariants as fault

-- TOO_LONG is returned exactly if the input is too long (P), with allowed numbers (S) and an
-- input that may be written (W), unless memory was refused
pub too-long-status : {X Y : Type 0} (r : Result X EncodeFault) (q : Result Y ℕ) (f : EncodeFault) (S W P : Type 0) → r ≡ Err f → q ≡ Err (encode_status f) → S → W
    → ((r ≡ Err fault.TooLong) ↔ ((r ≢ Err fault.Memory) × P))
    → (q ≡ Err 2) ↔ ((q ≢ Err 4) × S × W × P)
too-long-status r q f S W P is so s w told = grind arith

-- a result that is an error is one error
pub same-status : {X : Type 0} (r : Result X ℕ) (m n : ℕ) → r ≡ Err m → r ≡ Err n → m ≡ n
same-status r m n p q = grind arith

-- a result that is a value is no error
pub not-refused : {X : Type 0} (r : Result X ℕ) (v : X) (n : ℕ) → r ≡ Ok v → r ≡ Err n → ⊥
not-refused r v n p q = grind arith

-- the status TOO_LONG of an input that is refused
pub refused-long : {X : Type 0} (r : Result X ℕ) (status : ℕ) (S W P : Type 0) → r ≡ Err status
    → ((r ≡ Err 2) ↔ ((r ≢ Err 4) × S × W × P)) → (status ≡ 2) ↔ ((status ≢ 4) × S × W × P)
refused-long r status S W P is told = grind arith

-- ROOM is not returned for an input that is refused: if it has a symbol (R), only lack of memory refuses it
pub refused-room : {X : Type 0} (r : Result X ℕ) (status : ℕ) (x : List ℕ) (S W P R : Type 0) →
    r ≡ Err status → (R → P → ⊥) → ((r ≡ Err 5) ↔ (S → ⊥)) → ((r ≡ Err 1) ↔ (S × (x ≡ []))) → ((r ≡ Err 12) ↔ (S × (W → ⊥))) →
    ((r ≡ Err 2) ↔ ((r ≢ Err 4) × S × W × P)) →
    (status ≡ 1) ⊎ (status ≡ 12) ⊎ (status ≡ 2) ⊎ (status ≡ 4) ⊎ (status ≡ 5) →
    (status ≡ 6) ↔ ((status ≢ 4) × S × (x ≢ []) × W × R)
refused-room r status x S W P R is apart settings empty fields told kinds = grind arith

-- an input that may not be written is not empty
pub refused-some : (how : Interpretation) (x : List ℕ) (b : Bool) → (MayWrite how x → b ≡ true) → b ≡ false → x ≡ [] → ⊥
refused-some how x b told refused e = search (arith, may_write-none)

-- a symbol, boosted or not, has the least version that the input fits
pub version-asked : (boost : Bool) (smallest : ℕ) (l : Level) (rule : Rule) (how : Interpretation) (x : List ℕ) (v : ℕ) (k : Level) (mask : ℕ) (g : Grid)
    → (boost ≡ false → (k ≡ l) × IsSymbol smallest l rule how x v mask g)
    → (boost ≡ true → IsBoostedSymbol smallest l rule how x v k mask g) → IsVersion smallest l rule how x v
version-asked false smallest l rule how x v k mask g plain boosted = (plain refl).1.version
version-asked true smallest l rule how x v k mask g plain boosted = (boosted refl).version

-- the version of an encoded input is the least version that it fits
pub encoded-version : (x : List ℕ) (version level rule interpretation boost : ℕ) (g : Grid) (s : QrprovedSymbol) → IsEncoded x version level rule interpretation boost g s
    → IsVersion version (level_of level) (rule_of rule) (interpretation_of interpretation) x s.version
encoded-version x version level rule interpretation boost g s e = elim (cases_lt boost 1) [
  | inl l ↦ (e.made (omega arith)).1.version
  | inr l ↦ (e.boosted (omega (arith, e.settings.1))).version
]

-- the side of an encoded input is that of its version
pub encoded-side : (x : List ℕ) (version level rule interpretation boost : ℕ) (g : Grid) (s : QrprovedSymbol) → IsEncoded x version level rule interpretation boost g s
    → s.side ≡ side_of s.version
encoded-side x version level rule interpretation boost g s e = e.side ∙ elim (cases_lt boost 1) [
  | inl l ↦ ap (λ (h : Grid). h.side) (e.made (omega arith)).1.made.drawn
  | inr l ↦ ap (λ (h : Grid). h.side) (e.boosted (omega (arith, e.settings.1))).made.drawn
]

-- the buffer that is too short for the symbol of an input is too short for its least version
pub room-lacks : (bytes : ℕ → ℕ) (x : List ℕ) (version level rule interpretation boost : ℕ) (g : Grid) (s : QrprovedSymbol) (buffer : List ℕ)
    → IsEncoded x version level rule interpretation boost g s → length buffer < bytes s.side → LacksRoom bytes x version level rule interpretation buffer
room-lacks bytes x version level rule interpretation boost g s buffer e short = record {
  least = s.version;
  fits = encoded-version x version level rule interpretation boost g s e;
  room = omega (arith, ap bytes (encoded-side x version level rule interpretation boost g s e));
}

-- a buffer with room for the symbol of an input does not lack room
pub room-suffices : (bytes : ℕ → ℕ) (x : List ℕ) (version level rule interpretation boost : ℕ) (g : Grid) (s : QrprovedSymbol) (buffer : List ℕ)
    → IsEncoded x version level rule interpretation boost g s → bytes s.side ≤ length buffer → LacksRoom bytes x version level rule interpretation buffer → ⊥
room-suffices bytes x version level rule interpretation boost g s buffer e room w =
    let least = version-one x (level_of level) version (rule_of rule) (interpretation_of interpretation) s.version w.least
    (encoded-version x version level rule interpretation boost g s e) w.fits in
    let side : s.side ≡ side_of w.least = encoded-side x version level rule interpretation boost g s e ∙ ap side_of least in
    omega (arith, ap bytes side, w.room)
