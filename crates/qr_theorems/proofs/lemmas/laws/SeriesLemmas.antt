-- Damaged squares are mended one by one, and are joined to the bytes of the undamaged squares.
use Rattle.{qr_bits.specs.Parsing.Content, qr_matrix.specs.Grid.{Grid}, qr_mending.proofs.Facts.{content-one, content-refused}}
use Rattle.qr_mending.specs.{Series.{IsMendedContent, IsMendedSeries, IsUnmendedSeries}}
use Rattle.qr_symbol.{proofs.Facts.{joined-refused, joining-one, message-one, moved}, specs.{Joining.{AreReadBy, IsJoined}, Reading.IsReading}}
use Rattle.qr_symbol.specs.declared.fault.ReadFault.{ReadFault}
use Rattle.qr_theorems.specs.Damage.{AreDamagedSquares, IsDamagedSquare}
use Rattle.std.{proofs.Common.{arith, ◌≡◌, ℕ, List, [], ◌∷◌}, specs.Prelude.{Result, Ok, Err, MatchResult}}
use Rattle.qr_symbol.specs.declared.fault.ReadFault.TheVariants as fault

-- a damaged square is mended to the content that the whole square is read as
damaged-content : (d w : Grid) (c : Content) → IsDamagedSquare d w → IsReading w c → IsMendedContent d c
damaged-content d w c s h =
    let m = moved w h.version s.version h.level s.level h.mask s.mask h.message h.sized s.sized h.format s.format h.holds in
    let sized = s.sized in
    let same : h.message ≡ s.message = message-one s.version s.level s.mask w h.message s.message sized.least
    sized.most m.1 s.holds in search arith

-- damaged squares are mended to the contents that the whole squares are read as
damaged-contents : (ds ws : List Grid) (cs : List Content) → AreDamagedSquares ds ws → AreReadBy IsReading ws cs → AreReadBy IsMendedContent ds cs
unfolding AreDamagedSquares AreReadBy
damaged-contents [] [] [] s h = tt
damaged-contents [] [] (c ∷ cs) s h = absurd h
damaged-contents [] (w ∷ ws) cs s h = absurd s
damaged-contents (d ∷ ds) [] cs s h = absurd s
damaged-contents (d ∷ ds) (w ∷ ws) [] s h = absurd h
damaged-contents (d ∷ ds) (w ∷ ws) (c ∷ cs) s h = (damaged-content d w c s.0 h.0, damaged-contents ds ws cs s.1 h.1)

-- damaged squares are joined to the bytes that the whole squares are joined to
pub damaged-joined : (ds ws : List Grid) (x : List ℕ) → AreDamagedSquares ds ws → IsJoined ws x → IsMendedSeries ds x
damaged-joined ds ws x s h = search (arith, damaged-contents)

-- squares that can be joined to bytes with their damage mended are joined to them, unless memory is refused
pub mended-to : {T : Type 0} (bytes : T → List ℕ) (ds : List Grid) (x : List ℕ) (r : Result T ReadFault) →
    IsMendedSeries ds x → MatchResult r (λ b. IsMendedSeries ds (bytes b)) (IsUnmendedSeries ds) →
    MatchResult r (λ b. bytes b ≡ x) (λ e. e ≡ fault.Memory)
mended-to bytes ds x (Ok b) h k = joining-one IsMendedContent content-one ds (bytes b) x k h
mended-to bytes ds x (Err e) h k = search (arith, joined-refused, content-one, content-refused)
