-- The final sequence of a version and a level: how long it is, and that each message has only one.
use Rattle.{qr_field.{proofs.Facts.correction-one, specs.Polynomial.IsCorrection}, qr_layout.proofs.Facts.{Mem-of-Contains, blocks-sound}}
use Rattle.qr_layout.specs.{Blocks.{data_codewords_of, blocks_of}, Version.total_codewords_of, declared.{blocks.Blocks.Blocks, level.Level.Level}}
use Rattle.qr_symbol.proofs.lemmas.interleaving.{CheckLemmas.both-interleaved, OrderLemmas.positions-many, PositionLemmas.part-at}
use Rattle.qr_symbol.proofs.lemmas.interleaving.RankLemmas.{positions-one, position-of, map-at}
use Rattle.qr_symbol.specs.Interleaving.{IsChecks, block_count, codeword_count, codeword_at, data_sizes, correction_sizes, block_of, check_at, part_of, IsFinalMessage, IsGathered}
use Rattle.std.proofs.Common.{◌≡◌, ℕ, ◌+◌, ◌<◌, ◌≤◌, List, [], ◌∷◌, ◌++◌, map, length, length-append, get_or, refl, sym, ◌∙◌, ap, subst, arith, drop, take}
use Rattle.std.proofs.Math.Seq.{take-append_seam, drop-append_seam}
use Rattle.std.proofs.lemmas.List.{length-map, length-drop, length-take-le, ext_get_or, take-append-drop, take-take, take_all}

-- ---- one final sequence

-- two lists of error correction codewords for the same blocks are equal
pub checks-one : (b : Blocks) (d : List ℕ) (n : ℕ) (xs ys : List (List ℕ)) → length xs ≡ n → length ys ≡ n
    → ((i : ℕ) → i < n → IsCorrection (block_of b d i) b.ec_len (get_or xs i []))
    → ((i : ℕ) → i < n → IsCorrection (block_of b d i) b.ec_len (get_or ys i [])) → xs ≡ ys
checks-one b d n xs ys e f h k =
    ext_get_or [] xs ys (e ∙ sym f) (λ i l. correction-one (block_of b d i) b.ec_len (get_or xs i []) (get_or ys i []) (h i (omega arith)) (k i (omega arith)))

-- data codewords have at most one final sequence
pub final-one : (b : Blocks) (d xs ys : List ℕ) → IsFinalMessage b d xs → IsFinalMessage b d ys → xs ≡ ys
final-one b d xs ys h k =
    cc (positions-one _ _ _ h.data_order k.data_order, positions-one _ _ _ h.check_order k.check_order, checks-one b d _ _ _ h.count k.count h.each k.each)

-- two equal joined lists with first parts of the same length are equal part by part
pub append-front : {X : Type 0} (xs ys us vs : List X) → length xs ≡ length ys → xs ++ us ≡ ys ++ vs → (xs ≡ ys) × (us ≡ vs)
append-front [] [] us vs n e = (refl, e)
append-front (x ∷ xs) (y ∷ ys) us vs n e = let w = append-front xs ys us vs (omega arith) cc in (cc, w.1)
append-front xs ys us vs n e = absurd (omega arith)

-- a sequence is the final sequence of at most one list of data codewords
pub data-one : (b : Blocks) (d e cw : List ℕ) → length d ≡ codeword_count (data_sizes b) → length e ≡ codeword_count (data_sizes b) → IsFinalMessage b d cw → IsFinalMessage b e cw → d ≡ e
data-one b d e cw n m h k =
    let c = data_sizes b in let one = positions-one c _ _ k.data_order h.data_order in
    let both : map (codeword_at c d) h.data_positions ++ map (check_at h.corrections) h.check_positions ≡ map (codeword_at c e) h.data_positions ++ map (check_at k.corrections) k.check_positions =
    cc in ext_get_or 0 d e (n ∙ sym m) (λ j l.
    let t = position-of c (block_count c) j (omega arith) (omega arith) in
    let q = map-at _ _ _ t.0 (append-front _ _ _ _ (search (arith, length-map)) both).0 (Mem-of-Contains h.data_positions t.0 (h.data_order.complete t.0 t.1)) in
    same-index d e _ j t.2 q)
  where
    same-index : (d e : List ℕ) (i j : ℕ) → i ≡ j → get_or d i 0 ≡ get_or e i 0 → get_or d j 0 ≡ get_or e j 0
    same-index d e i j f q = subst (λ (z : ℕ). get_or d z 0 ≡ get_or e z 0) f q

-- ---- the length of a final sequence

-- a final sequence has a codeword for each position
final-many : (b : Blocks) (d cw : List ℕ) → IsFinalMessage b d cw → length cw ≡ codeword_count (data_sizes b) + codeword_count (correction_sizes b)
final-many b d cw h =
    let e = ap (length {A = ℕ}) h.whole in
    let a = length-append (map (codeword_at (data_sizes b) d) h.data_positions) (map (check_at h.corrections) h.check_positions) in
    let m = length-map h.data_positions (codeword_at (data_sizes b) d) in
    let n = length-map h.check_positions (check_at h.corrections) in omega (arith, positions-many)

-- the blocks of the data codewords contain all data codewords
pub data-sizes-whole : (v : ℕ) (l : Level) → 1 ≤ v → v ≤ 40 → codeword_count (data_sizes (blocks_of v l)) ≡ data_codewords_of v l
data-sizes-whole v l h k = grind (arith, blocks-sound)

-- the blocks of data and error correction codewords together contain all codewords of the symbol
pub sizes-whole : (v : ℕ) (l : Level) → 1 ≤ v → v ≤ 40 → codeword_count (data_sizes (blocks_of v l)) + codeword_count (correction_sizes (blocks_of v l)) ≡ total_codewords_of v
sizes-whole v l h k = grind (arith, blocks-sound, data-sizes-whole)

-- a final sequence has as many codewords as the symbol
pub final-whole : (v : ℕ) (l : Level) (d cw : List ℕ) → 1 ≤ v → v ≤ 40 → IsFinalMessage (blocks_of v l) d cw → length cw ≡ total_codewords_of v
final-whole v l d cw h k i = final-many (blocks_of v l) d cw i ∙ sizes-whole v l h k

-- ---- one message at most

-- the prefix of two joined lists that has the length of the first list is the first list
pub take-front : {X : Type 0} (n : ℕ) (xs ys : List X) → length xs ≡ n → take n (xs ++ ys) ≡ xs
take-front n xs ys e = rw (← e) (take-append_seam xs ys)

-- what comes after this prefix is the second list
drop-front : {X : Type 0} (n : ℕ) (xs ys : List X) → length xs ≡ n → drop n (xs ++ ys) ≡ ys
drop-front n xs ys e = rw (← e) (drop-append_seam xs ys)

-- the gathered codewords are the message, if the sequence is the final sequence of a message
pub gathered-one : (b : Blocks) (interleaved xs d : List ℕ) → IsGathered (data_sizes b) interleaved xs
    → length d ≡ codeword_count (data_sizes b) → IsFinalMessage b d interleaved → xs ≡ d
gathered-one b interleaved xs d g n h =
    let c = data_sizes b in let one = positions-one c _ _ h.data_order g.order in
    let first : take (codeword_count c) interleaved ≡ map (codeword_at c d) g.positions =
    search (arith, take-front, length-map) in ext_get_or 0 xs d (g.long ∙ sym n) (λ j l.
    let w = position-of c (block_count c) j (omega arith) (omega arith) in
    let q = map-at _ _ _ w.0 (g.same ∙ first) (Mem-of-Contains _ w.0 (g.order.complete w.0 w.1)) in cc)

-- the error correction codewords that were gathered are those of the message, if the sequence is its final sequence
checks-read : (b : Blocks) (interleaved d xs es : List ℕ) (n : ℕ) → n ≡ codeword_count (data_sizes b) → IsFinalMessage b d interleaved
    → IsGathered (correction_sizes b) (drop n interleaved) xs → IsChecks b d (block_count (data_sizes b)) es → xs ≡ es
checks-read b interleaved d xs es n e h g k =
    let c = correction_sizes b in
    let first = map (codeword_at (data_sizes b) d) h.data_positions in
    let checks = map (check_at h.corrections) h.check_positions in
    let long : length first ≡ n = length-map h.data_positions (codeword_at (data_sizes b) d) ∙ (positions-many _ _ h.data_order ∙ sym e) in
    let rest : drop n interleaved ≡ checks = ap (drop n) h.whole ∙ drop-front n first checks long in
    let many : length checks ≡ codeword_count c = length-map h.check_positions (check_at h.corrections) ∙ positions-many _ _ h.check_order in
    let all : take (codeword_count c) (drop n interleaved) ≡ checks = ap (take (codeword_count c)) rest ∙ take_all (codeword_count c) checks (omega arith) in
    let both : map (codeword_at c xs) g.positions ≡ map (check_at h.corrections) g.positions = g.same ∙ (all ∙ ap (map (check_at h.corrections)) (positions-one c _ _ h.check_order g.order)) in
    ext_get_or 0 xs es (g.long ∙ omega (arith, k.long)) (λ j l.
    let w = position-of c (block_count c) j (omega arith) (omega (arith, g.long)) in
    let read = map-at _ _ _ w.0 both (Mem-of-Contains _ w.0 (g.order.complete w.0 w.1)) in
    let here : w.0.block < block_count (data_sizes b) = (let i = w.1.0 in omega arith) in
    cc (correction-one (block_of b d w.0.block) b.ec_len _ (part_of c es w.0.block) (h.each w.0.block here) (k.each w.0.block here), part-at c es w.0 w.1))

-- ---- a sequence that is read

-- a sequence is the final sequence of its gathered message, if its error correction codewords are those of the message
pub message-read : (b : Blocks) (interleaved d es : List ℕ) (n : ℕ) → n ≡ codeword_count (data_sizes b)
    → length interleaved ≡ codeword_count (data_sizes b) + codeword_count (correction_sizes b) → IsGathered (data_sizes b) interleaved d
    → IsGathered (correction_sizes b) (drop n interleaved) es → IsChecks b d (block_count (data_sizes b)) es → IsFinalMessage b d interleaved
message-read b interleaved d es n e l g h k =
    subst (IsFinalMessage b d) (take-append-drop n interleaved)
    (both-interleaved b d es (take n interleaved) (drop n interleaved) k.each (omega (arith, length-take-le n interleaved)) (omega (arith, length-drop n interleaved)) (search (arith, take-take)) h)

-- otherwise it is the final sequence of no message
pub none-fits : (b : Blocks) (interleaved xs es computed d : List ℕ) (n : ℕ) → n ≡ codeword_count (data_sizes b)
    → IsGathered (data_sizes b) interleaved xs → IsGathered (correction_sizes b) (drop n interleaved) es
    → IsChecks b xs (block_count (data_sizes b)) computed → (es ≡ computed → ⊥) → length d ≡ codeword_count (data_sizes b)
    → IsFinalMessage b d interleaved → ⊥
none-fits b interleaved xs es computed d n e g h k other l m =
    other (checks-read b _ xs _ _ n e (subst (λ (z : List ℕ). IsFinalMessage b z interleaved) (sym (gathered-one b _ xs d g l m)) m) h k)
