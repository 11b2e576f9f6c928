-- The number of bits of an assignment is a sum over its modes.
use Rattle.std.proofs.lemmas.Bool.{cond_both, cond-true, cond-false, eqb-true, eq-eqb}
use Rattle.std.proofs.Common.{◌≡◌, ℕ, ◌+◌, Bool, true, false, cond, ◌==◌, List, [], ◌∷◌, replicate, refl, arith, suc, zero}
use Rattle.qr_bits.specs.{declared.{modes.Mode.Mode, segmentation.Segment.Segment, run_state.RunState.RunState}, Modes.{count_width, payload_bits}}
use Rattle.qr_bits.specs.declared.run_state.RunState.TheVariants.{Start, Digit1, Digit2, Digit3, Character1, Character2, InBytes, HalfPair, WholePair}
use Rattle.qr_bits.specs.{Segmentation.{segment_bits, bits, rank, prepend_mode, runs_of}, Steps.RunState.{state_after, byte_cost, cost_of}}
use Rattle.qr_bits.proofs.lemmas.run_state.BestLemmas.{same-rank}

-- how far the last group is filled in a state
abbrev turn : RunState → ℕ
turn Start = 0
turn Digit1 = 1
turn Digit2 = 2
turn Digit3 = 3
turn Character1 = 1
turn Character2 = 2
turn InBytes = 1
turn HalfPair = 1
turn WholePair = 2

-- the rank of the mode of the last byte, 4 at the start
abbrev state_rank : RunState → ℕ
state_rank Start = 4
state_rank Digit1 = 0
state_rank Digit2 = 0
state_rank Digit3 = 0
state_rank Character1 = 1
state_rank Character2 = 1
state_rank InBytes = 2
state_rank HalfPair = 3
state_rank WholePair = 3

-- the mode goes on with the run before it
abbrev goes_on : RunState → Mode → Bool
goes_on p m = state_rank p == rank m

state_rank-after : (p : RunState) (m : Mode) → state_rank (state_after p m) ≡ rank m
unfolding state_after
state_rank-after p m = grind arith

one-more : (v : ℕ) (p : RunState) (m : Mode) (n : ℕ) → goes_on p m ≡ true
    → byte_cost v p m + payload_bits m (turn p) + payload_bits m (turn (state_after p m) + n) ≡ payload_bits m (turn p + (1 + n)) + payload_bits m (turn (state_after p m))
unfolding state_after byte_cost
one-more v p m n h = search arith

begins : (v : ℕ) (p : RunState) (m : Mode) → goes_on p m ≡ false
    → (byte_cost v p m ≡ 4 + count_width v m + payload_bits m 1) × (turn (state_after p m) ≡ 1)
unfolding state_after byte_cost
begins v p m h = grind arith

-- bytes that go on with a run add the data bits of the group with them, less those of the group without them
run-bits : (v : ℕ) (p : RunState) (m : Mode) (n : ℕ) → goes_on p m ≡ true
    → cost_of v p (replicate n m) + payload_bits m (turn p) ≡ payload_bits m (turn p + n)
unfolding cost_of
run-bits v p m zero h = search arith
run-bits v p m (suc n) h = search (arith, one-more, eq-eqb, state_rank-after, run-bits v (state_after p m) m n)

-- the bits that segments add after a state, where the first segment may go on with the run before it
abbrev rest_bits : ℕ → RunState → List Segment → ℕ
rest_bits v p [] = 0
rest_bits v p (s ∷ ss) = cond (goes_on p s.mode) (cost_of v p (replicate s.len s.mode)) (segment_bits v s) + bits v ss

one-run : (v : ℕ) (p : RunState) (m : Mode) (n : ℕ)
    → byte_cost v p m + cost_of v (state_after p m) (replicate n m) ≡ cond (goes_on p m) (cost_of v p (replicate (1 + n) m)) (segment_bits v (record { mode = m; len = 1 + n }))
unfolding cost_of
one-run v p m n = search (arith, cond_both, begins, run-bits, eq-eqb, state_rank-after)

-- the bits of a byte and of the segments after it are those of the segments with the byte before them
run-first : (v : ℕ) (p : RunState) (m : Mode) (segs : List Segment)
    → byte_cost v p m + rest_bits v (state_after p m) segs ≡ rest_bits v p (prepend_mode m segs)
unfolding cost_of
run-first v p m [] = omega (arith, one-run v p m 0)
run-first v p m (s ∷ ss) =
    cond_both (rank m == rank s.mode) _ _ (λ (r : List Segment). byte_cost v p m + rest_bits v (state_after p m) (s ∷ ss) ≡ rest_bits v p r)
    (search (arith, same-rank, eqb-true, eq-eqb, state_rank-after, cond-true, one-run)) (λ e.
    let f = cond-false (goes_on (state_after p m) s.mode) (cost_of v (state_after p m) (replicate s.len s.mode)) (segment_bits v s) (rw (state_rank-after p m) e) in
    let one = one-run v p m 0 in
    omega arith)

rest_bits-runs_of : (v : ℕ) (p : RunState) (ms : List Mode) → cost_of v p ms ≡ rest_bits v p (runs_of ms)
unfolding cost_of runs_of
rest_bits-runs_of v p [] = refl
rest_bits-runs_of v p (m ∷ ms) = omega (arith, run-first, rest_bits-runs_of v (state_after p m) ms)

-- the number of bits of the runs of an assignment is the sum over its modes
pub bits-runs_of : (v : ℕ) (ms : List Mode) → bits v (runs_of ms) ≡ cost_of v Start ms
bits-runs_of v ms = grind (arith, rest_bits-runs_of)
