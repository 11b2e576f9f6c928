-- Bytes in reverse order: their valid assignments are those of the bytes, reversed, with equally many bits. The two
-- bytes of each kanji pair are exchanged.
use Rattle.std.proofs.Common.{◌≡◌, ℕ, ◌+◌, ◌-◌, ◌≤◌, ◌<◌, Bool, true, false, ◌&&◌, List, [], ◌∷◌, ◌++◌, reverse, length, take, drop, get_or, refl, ◌∙◌, ap, arith, subst}
use Rattle.std.{proofs.{Math.Nat.le_refl, lemmas.{Bool.{false≢true, Decides.nat_tests}, List.{take-take, Folds.list_all-append}}}, specs.List.list_all}
use Rattle.std.proofs.lemmas.Bool.{and_parts, and_from}
use Rattle.std.proofs.lemmas.List.{reverse-append, reverse-reverse, take_more, take_all, drop_all, take-append-le, drop-append-le, take-append-drop, length-append, length-take-le, length-reverse, get_or-reverse}
use Rattle.qr_bits.specs.declared.{modes.{Mode.{Mode, TheVariants.Kanji}, Rule.Rule}, interpretation.Interpretation.Interpretation}
use Rattle.qr_bits.specs.declared.{segmentation.Segment.Segment, run_state.{PerState.PerState, RunState.{RunState, TheVariants.Start}}}
use Rattle.qr_bits.specs.{Interpretation.{characters_gs1, doubled_gs1, characters_in, doubled}, Steps.Segmentation.append_mode}
use Rattle.qr_bits.proofs.lemmas.{interpretation.written-reverse, run_state.DoubledLemmas.{allowed-length, allowed-written}}
use Rattle.qr_bits.proofs.lemmas.segmentation.{AssignedLemmas.{allowed-assigned, assigned-allowed, bits-assigned}, CoverLemmas.{by-covers, suits_by, CoversBy}}
use Rattle.qr_bits.specs.{Segmentation.{bits, prepend_mode, runs_of, HasFit}, Modes.{in_twos, is_kanji_pair, may_use}}
use Rattle.qr_bits.specs.Steps.{RunState.{swapped, begins_with_pair, may_end, may_take_in, allowed_in, cost_of_all, state_in}, BestModes.{bits_at, follow_in, IsRow}}
use Rattle.qr_bits.proofs.lemmas.{run_state.BestLemmas.{BestBelow, same-rank}, segmentation.BackLemmas.{runs_of-push, append_mode-last}}
use Rattle.qr_bits.proofs.lemmas.{run_state.AssignmentLemmas.{IsAssignmentBy, can-take, is-assignment}, best_modes.TableLemmas.{bytes-rest, best-more}}

list_all-reverse : {X : Type 0} (p : X → Bool) (xs : List X) → list_all p xs ≡ true → list_all p (reverse xs) ≡ true
list_all-reverse p [] h = refl
list_all-reverse p (x ∷ xs) h =
    rw (reverse-append (x ∷ []) xs) (search (arith, list_all-append, and_parts, and_from, list_all-reverse p xs))

in_twos-push : (test : ℕ → ℕ → Bool) (xs : List ℕ) (x y : ℕ) → in_twos test xs ≡ true → test x y ≡ true → in_twos test (xs ++ x ∷ y ∷ []) ≡ true
in_twos-push test [] x y h t = search (arith, and_from)
in_twos-push test (a ∷ []) x y h t = cc
in_twos-push test (a ∷ b ∷ xs) x y h t = search (arith, and_parts, and_from, in_twos-push test xs x y)

in_twos-reverse : (test : ℕ → ℕ → Bool) (xs : List ℕ) → in_twos test xs ≡ true → in_twos (swapped test) (reverse xs) ≡ true
in_twos-reverse test [] h = refl
in_twos-reverse test (x ∷ []) h = cc
in_twos-reverse test (x ∷ y ∷ xs) h =
    rw (reverse-append (x ∷ y ∷ []) xs) (search (arith, in_twos-push, and_parts, in_twos-reverse test xs))

covers-push : (p : ℕ → ℕ → Bool) (xs ys : List ℕ) (ss : List Segment) (s : Segment) → 0 < s.len → length ys ≡ s.len → suits_by p s.mode ys ≡ true → CoversBy p xs ss → CoversBy p (xs ++ ys) (ss ++ s ∷ [])
unfolding CoversBy
covers-push p xs ys [] s a n h c = search (arith, take_all, drop_all)
covers-push p xs ys (t ∷ ss) s a n h c =
    search (arith, length-append, take-append-le, drop-append-le, covers-push p (drop t.len xs) ys ss s a n h c.3)

-- if segments cover bytes, the segments in reverse order cover the bytes in reverse order
covers-reverse : (test : ℕ → ℕ → Bool) (xs : List ℕ) (ss : List Segment) → CoversBy test xs ss → CoversBy (swapped test) (reverse xs) (reverse ss)
unfolding CoversBy
covers-reverse test xs [] c = ap reverse c
covers-reverse test xs (s ∷ ss) c =
    let whole : reverse xs ≡ reverse (drop s.len xs) ++ reverse (take s.len xs) = cc (take-append-drop s.len xs, reverse-append (take s.len xs) (drop s.len xs)) in
    rw (reverse-append (s ∷ []) ss, whole) (search (arith, covers-push, length-reverse, length-take-le, list_all-reverse, in_twos-reverse, covers-reverse test (drop s.len xs) ss c.3))

prepend_mode-reverse : (m : Mode) (ss : List Segment) → append_mode (reverse ss) m ≡ reverse (prepend_mode m ss)
unfolding append_mode
prepend_mode-reverse m [] = refl
prepend_mode-reverse m (s ∷ ss) =
    rw (reverse-append (s ∷ []) ss, append_mode-last (reverse ss) s m) (grind (arith, nat_tests, same-rank, reverse-append (record { mode = m; len = 1 + s.len } ∷ []) ss, reverse-append (record { mode = m; len = 1 } ∷ s ∷ []) ss))

runs_of-reverse : (ms : List Mode) → runs_of (reverse ms) ≡ reverse (runs_of ms)
unfolding runs_of
runs_of-reverse [] = refl
runs_of-reverse (m ∷ ms) =
    rw (reverse-append (m ∷ []) ms) (search (arith, runs_of-push, prepend_mode-reverse, runs_of-reverse ms))

bits-append : (v : ℕ) (ss ts : List Segment) → bits v (ss ++ ts) ≡ bits v ss + bits v ts
bits-append v [] ts = omega arith
bits-append v (s ∷ ss) ts = omega (arith, bits-append v ss ts)

bits-reverse : (v : ℕ) (ss : List Segment) → bits v (reverse ss) ≡ bits v ss
bits-reverse v [] = refl
bits-reverse v (s ∷ ss) = rw (reverse-append (s ∷ []) ss) (search (arith, bits-append, bits-reverse v ss))

mirror : (v : ℕ) (t : ℕ → ℕ → Bool) (r : Rule) (xs : List ℕ) (ms : List Mode) → IsAssignmentBy t r xs ms
    → IsAssignmentBy (swapped t) r (reverse xs) (reverse ms) × (bits v (runs_of (reverse ms)) ≡ bits v (runs_of ms))
mirror v t r xs ms h = search (arith, list_all-reverse, runs_of-reverse, covers-reverse, bits-reverse)

-- what is allowed for bytes, reversed, is allowed for the reversed bytes, with equally many bits
mirror-in : (i : Interpretation) (v : ℕ) (t : ℕ → ℕ → Bool) (r : Rule) (xs : List ℕ) (ms : List Mode) → allowed_in i r t Start xs ms ≡ true
    → (allowed_in i r (swapped t) Start (reverse xs) (reverse ms) ≡ true) × (cost_of_all i v Start (reverse xs) (reverse ms) ≡ cost_of_all i v Start xs ms)
unfolding may_end
mirror-in i v t r xs ms h =
    let m = mirror v t r (characters_in i xs ms) (doubled i xs ms) (is-assignment t r (characters_in i xs ms) (doubled i xs ms) Start refl (allowed-written i r t Start xs ms ∙ h)) in
    let written = written-reverse i xs ms (allowed-length i r t Start xs ms h) in
    let back = rw (← written.1, ← written.0) at m.0 in (
      cc (allowed-written i r (swapped t) Start (reverse xs) (reverse ms), can-take (swapped t) r _ _ back Start refl),
      cc (written.0, bits-assigned i v (reverse xs) (reverse ms), bits-assigned i v xs ms),
    )

-- if the best rest of a reversed prefix has at most n bits, the prefix fits n bits
pub prefix-fits : (i : Interpretation) (v : ℕ) (r : Rule) (xs : List ℕ) (f : RunState → List Mode) (cost : RunState → ℕ) (n : ℕ) → BestBelow i v r (swapped is_kanji_pair) (reverse xs) f cost → cost Start ≤ n → HasFit i v r xs n
unfolding may_end
prefix-fits i v r xs f cost n below small =
    let best = below Start _ (bytes-rest i r (swapped is_kanji_pair) Start (reverse xs) refl) in
    let back = mirror-in i v (swapped is_kanji_pair) r (reverse xs) (f Start) best.is_allowed in
    let again : allowed_in i r is_kanji_pair Start xs (reverse (f Start)) ≡ true = rw (reverse-reverse xs) at back.0 in
    search (arith, reverse-reverse, allowed-assigned, bits-assigned)

-- if a prefix fits n bits, the best rest of the reversed prefix has at most n bits
pub prefix-least : (i : Interpretation) (v : ℕ) (r : Rule) (xs : List ℕ) (f : RunState → List Mode) (cost : RunState → ℕ) (n : ℕ) → BestBelow i v r (swapped is_kanji_pair) (reverse xs) f cost → HasFit i v r xs n → cost Start ≤ n
prefix-least i v r xs f cost n below fit = search (arith, bits-assigned, mirror-in i v is_kanji_pair r xs fit.0 (assigned-allowed i r xs fit.0 fit.1))

-- what is allowed for the bytes `ys` and then `xs` contains what is allowed for `xs`, which takes no more bits
later-part : (i : Interpretation) (v : ℕ) (r : Rule) (test : ℕ → ℕ → Bool) (ys xs : List ℕ) (p : RunState) (ks : List Mode) → allowed_in i r test p (ys ++ xs) ks ≡ true
    → (q : RunState) × (ms : List Mode) × (allowed_in i r test q xs ms ≡ true) × (cost_of_all i v q xs ms ≤ cost_of_all i v p (ys ++ xs) ks)
unfolding allowed_in cost_of_all
later-part i v r test [] xs p ks h = (p, ks, h, le_refl _)
later-part i v r test (y ∷ ys) xs p [] h = absurd (false≢true h)
later-part i v r test (y ∷ ys) xs p (k ∷ ks) h =
    search (arith, and_parts, later-part i v r test ys xs (state_in i p y k) ks (and_parts (may_take_in i r p y (begins_with_pair r test (y ∷ ys ++ xs)) k) _ h).1)

-- if all best rests of a reversed prefix take more than n bits, no prefix at least as long fits n bits
pub none-longer : (i : Interpretation) (v : ℕ) (r : Rule) (xs : List ℕ) (j k : ℕ) (f : RunState → List Mode) (cost : RunState → ℕ) (n : ℕ) → BestBelow i v r (swapped is_kanji_pair) (reverse (take j xs)) f cost
    → ((p : RunState) → n < cost p) → j ≤ k → HasFit i v r (take k xs) n → ⊥
none-longer i v r xs j k f cost n below more l fit =
    let ys = drop j (take k xs) in
    let cut : reverse (take k xs) ≡ reverse ys ++ reverse (take j xs) = cc (take-take j k xs l, take-append-drop j (take k xs), reverse-append (take j (take k xs)) ys) in
    let back = mirror-in i v is_kanji_pair r (take k xs) fit.0 (assigned-allowed i r (take k xs) fit.0 fit.1) in
    search (arith, bits-assigned, later-part i v r (swapped is_kanji_pair) (reverse ys) (reverse (take j xs)) Start (reverse fit.0) (rw cut at back.0))

-- an empty input fits any number of bits
pub empty-fits : (i : Interpretation) (v : ℕ) (r : Rule) (n : ℕ) → HasFit i v r [] n
unfolding CoversBy runs_of characters_gs1 doubled_gs1
empty-fits i v r n = grind (arith, by-covers)

begins-at : (r : Rule) (test : ℕ → ℕ → Bool) (xs : List ℕ) → 2 ≤ length xs → begins_with_pair r test xs ≡ (may_use r Kanji && test (get_or xs 0 0) (get_or xs 1 0))
unfolding begins_with_pair
begins-at r test xs h = grind arith

-- the last two bytes are the first two of the reversed bytes
pub ends_at : (r : Rule) (xs : List ℕ) → 2 ≤ length xs → begins_with_pair r (swapped is_kanji_pair) (reverse xs) ≡ (may_use r Kanji && is_kanji_pair (get_or xs (length xs - 2) 0) (get_or xs (length xs - 1) 0))
ends_at r xs h = search (arith, begins-at, length-reverse, get_or-reverse)

-- fewer than two bytes do not end in two
pub ends_short : (r : Rule) (xs : List ℕ) → length xs < 2 → begins_with_pair r (swapped is_kanji_pair) (reverse xs) ≡ false
unfolding begins_with_pair
ends_short r xs h = grind (arith, length-reverse)

-- the table for a reversed prefix with one more byte
pub prefix-more : (i : Interpretation) (v : ℕ) (r : Rule) (xs : List ℕ) (j : ℕ) (pair : Bool) (rows : List ℕ) (row : ℕ) (rest ns : PerState) → j < length xs
    → pair ≡ begins_with_pair r (swapped is_kanji_pair) (reverse (take (j + 1) xs))
    → BestBelow i v r (swapped is_kanji_pair) (reverse (take j xs)) (λ p. follow_in i p (reverse (take j xs)) rows) (bits_at rest)
    → IsRow i v r (get_or xs j 0) pair rest row ns
    → BestBelow i v r (swapped is_kanji_pair) (reverse (take (j + 1) xs)) (λ p. follow_in i p (reverse (take (j + 1) xs)) (row ∷ rows)) (bits_at ns)
prefix-more i v r xs j pair rows row rest ns h e below choice =
    let x = get_or xs j 0 in
    let next : reverse (take (j + 1) xs) ≡ x ∷ reverse (take j xs) = cc (take_more xs j 0 h, reverse-append (take j xs) (x ∷ [])) in
    rw next (best-more i v r (swapped is_kanji_pair) x (reverse (take j xs)) rows row rest ns below (subst (λ (b : Bool). IsRow i v r x b rest row ns) (e ∙ ap (begins_with_pair r (swapped is_kanji_pair)) next) choice))
