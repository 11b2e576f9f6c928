-- What the functions that read a part of the bits return, and how they append the bytes that they read.
use Rattle.std.specs.Prelude.{◌≡◌, ◌⊎◌, ℕ, Bool, List, ◌++◌, drop, Result, Ok, Err, MatchResult}
use Rattle.qr_bits.specs.declared.modes.Mode.{Mode}
use Rattle.qr_bits.specs.declared.segmentation.Segment.{Segment}
use Rattle.qr_bits.specs.declared.fault.ParseFault.{ParseFault}
use Rattle.qr_bits.specs.declared.fault.ParseFault.TheVariants.{Memory}
use Rattle.qr_bits.specs.Modes.{byte_count, payload_bits}
use Rattle.qr_bits.specs.Parsing.{◌>>=◌, values_of}

-- The code has returned the fault `e`, and the definition of what it should return yields `read`. Either `e` is
-- `Memory`, since an allocation was refused, or `read` is the same fault `e`
abbrev pub IsFaultOf : {A : Type 0} → ParseFault → Result A ParseFault → Type 0
IsFaultOf e read = (e ≡ Memory) ⊎ (read ≡ Err e)

-- The bytes `prefix`, which were read earlier, followed by the bytes of the result `read`. If `read` is a fault, the
-- value is this fault
abbrev pub prepend_read : List ℕ → Result (List ℕ) ParseFault → Result (List ℕ) ParseFault
prepend_read prefix read = read >>= λ xs. Ok (prefix ++ xs)

-- If the code succeeds, it has taken the first `width` bits of `bits`, so that `rest` is left, and has appended the
-- bytes of `read` to `out`, which has become `new`. Otherwise the code returns the fault `Memory`, or `read` is the
-- fault that the code returns
abbrev pub IsReadOf : Result (Unit {0}) ParseFault → Result (List ℕ) ParseFault → ℕ → List ℕ → List ℕ → List Bool → List Bool → Type 0
IsReadOf r read width out new bits rest =
    MatchResult r (λ _. (prepend_read out read ≡ Ok new) × (rest ≡ drop width bits)) (λ e. IsFaultOf e (prepend_read out read))

-- What is read of a segment when its mode `m` and its number `n` of characters were already read: the segment, its
-- characters, and the bits that remain. `bits` begin with the data of the segment
abbrev pub segment_of : Mode → ℕ → List Bool → Result (Segment × List ℕ × List Bool) ParseFault
segment_of m n bits =
    values_of m n bits >>= λ xs. Ok (record { mode = m; len = byte_count m n }, xs, drop (payload_bits m (byte_count m n)) bits)
