-- What is read from the square of a symbol: the codeword bits, the codewords and the message.
use Rattle.qr_bits.{proofs.Facts.{length-field, length-bits_of, bits_at, bytes-takes}, specs.{Bits.{field, bits_of, codeword_bit}, Parsing.bytes_of}}
use Rattle.qr_layout.{proofs.Facts.{order-mem, order-length, index-at, only-order, to_come-start, region-role}, specs.{Blocks.data_codewords_of, Order.IsOrder}}
use Rattle.qr_layout.specs.{Steps.Order.{to_come, first_cursor}, Version.total_codewords_of, declared.{level.Level.Level, region.Module.Module}}
use Rattle.qr_matrix.{proofs.Facts.colour-square, specs.Grid.Grid}
use Rattle.qr_symbol.proofs.lemmas.interleaving.MessageLemmas.{append-front, data-one, data-sizes-whole}
use Rattle.qr_symbol.{proofs.lemmas.placement.PlacementLemmas.{in-square, whole-push, Mem-mid}, specs.{Interleaving.IsInterleaved, Mask.{inverts, inverted}}}
use Rattle.qr_symbol.specs.{Reading.{unmasked, read_bits, IsRead, IsMessage}, Symbol.{colour_of, grid_of}}
use Rattle.std.proofs.Common.{◌≡◌, ℕ, zero, suc, ◌+◌, ◌-◌, ◌*◌, ◌<◌, ◌≤◌, Bool, false, List, [], ◌∷◌, ◌++◌, map, take, drop, length, replicate, refl, sym, ◌∙◌, ap, subst, length-append, inl, inr, arith}
use Rattle.std.proofs.{Math.Seq.{drop-cons, take-length}, lemmas.Bool.{cases_lt, Decides.nat_tests}}
use Rattle.std.{proofs.lemmas.{List.{append-nil, length-map, length-take, length-replicate}, Nat.Bits.{same_from_bits_below, bit_at-lt}}, specs.Int.bit_at}
use Rattle.std.specs.List.{All}

-- a bit that is inverted twice is unchanged
inverted-twice : (b x : Bool) → inverted b (inverted b x) ≡ x
inverted-twice b x = grind (arith, nat_tests)

-- the bit that is read at one module
read-place : (v : ℕ) (l : Level) (mask : ℕ) (cw : List ℕ) (front back : List Module) (m : Module) → 1 ≤ v → IsOrder v (front ++ m ∷ back) → unmasked mask (grid_of v l mask cw) m ≡ codeword_bit cw (length front)
unfolding colour_of
read-place v l mask cw front back m k o =
    let w = in-square v _ _ m o in
    let e = region-role v _ _ k w.0 w.1 (order-mem v _ o m (Mem-mid m _ _)) in ap (inverted (inverts mask m.row m.col)) (search (arith, colour-square))
    ∙ (inverted-twice _ _ ∙ ap (codeword_bit cw) (index-at v _ _ m o))

-- the bits that are read from one module of the order on
read-from : (v : ℕ) (l : Level) (mask : ℕ) (cw : List ℕ) (n : ℕ) (front rest : List Module) → 1 ≤ v → IsOrder v (front ++ rest) → length front + n ≤ 8 * length cw → n ≤ length rest → map (unmasked mask (grid_of v l mask cw)) (take n rest) ≡ take n (drop (length front) (bits_of cw))
read-from v l mask cw zero front rest p o i h = refl
read-from v l mask cw (suc n) front [] p o i h = absurd (omega arith)
read-from v l mask cw (suc n) front (m ∷ rest) p o i h =
    let bits = bits_of cw in let k = length front in
    let next : length (front ++ m ∷ []) ≡ suc k = omega (arith, length-append front (m ∷ [])) in
    let here = read-place v l mask cw _ _ m p o in
    let later = read-from v l mask cw n _ _ p (whole-push v _ _ m o) (omega arith) (omega arith) ∙ ap (λ (z : ℕ). take n (drop z bits)) next in
    let c = drop-cons bits k false (omega (arith, length-bits_of cw)) in cc (bits_at cw k (omega arith))

-- the prefix with the length of the list is the whole list
take-whole : {X : Type 0} (xs : List X) (n : ℕ) → length xs ≡ n → take n xs ≡ xs
take-whole xs n e = rw (← e) (take-length xs)

-- a symbol is read as the bits of its codewords
pub read-grid : (v : ℕ) (l : Level) (mask : ℕ) (cw : List ℕ) (ms : List Module) → 1 ≤ v → v ≤ 40 → IsOrder v ms → length cw ≡ total_codewords_of v → read_bits v mask (grid_of v l mask cw) ms ≡ bits_of cw
read-grid v l mask cw ms p h o e =
    let t = 8 * total_codewords_of v in let many = order-length v ms p h o in
    let none : t - length ms ≡ 0 = omega arith in
    ap (λ (z : ℕ). map (unmasked mask (grid_of v l mask cw)) (take t ms) ++ replicate z false) none
    ∙ (append-nil _
    ∙ (read-from v l _ cw t [] ms p o (omega arith) (omega arith) ∙ take-whole _ t (omega (arith, length-bits_of cw))))

-- ---- bits determine their bytes

-- numbers with the same bits as fields have equal bits
field-one : (w x y : ℕ) → field w x ≡ field w y → (i : ℕ) → i < w → bit_at x i ≡ bit_at y i
unfolding field
field-one zero x y e i l = absurd (omega arith)
field-one (suc w) x y e i l = elim (cases_lt i w) [
  | inl k ↦ field-one w x y (ap tail e) i k
  | inr k ↦ search (arith, bit_at-lt)
]
  where
    tail : List Bool → List Bool
    tail [] = []
    tail (b ∷ bs) = bs

-- bytes with the same bits are equal
pub bits-one : (cw ds : List ℕ) → All (λ x. x < 256) cw → All (λ x. x < 256) ds → bits_of cw ≡ bits_of ds → cw ≡ ds
unfolding bits_of
bits-one [] [] a b e = refl
bits-one [] (d ∷ ds) a b e = absurd (let l = ap length e in omega (arith, length-append (field 8 d) (bits_of ds), length-field 8 d))
bits-one (c ∷ cs) [] a b e = absurd (let l = ap length e in omega (arith, length-append (field 8 c) (bits_of cs), length-field 8 c))
bits-one (c ∷ cs) (d ∷ ds) a b e =
    let w = append-front _ _ _ _ (length-field 8 c ∙ sym (length-field 8 d)) e in
    let h = same_from_bits_below 8 c d (a 0 c (omega arith)) (b 0 d (omega arith)) (field-one 8 c d w.0) in
    λ i. h i ∷ (bits-one cs ds (λ k x l. a (suc k) x (omega arith)) (λ k x l. b (suc k) x (omega arith)) w.1) i

-- a square is read as at most one list of codewords
pub read-one : (v mask : ℕ) (g : Grid) (cw ds : List ℕ) → IsRead v mask g cw → IsRead v mask g ds → cw ≡ ds
read-one v mask g cw ds h k = bits-one cw ds h.bytes k.bytes (cc (only-order v h.places k.places h.order k.order))

-- every square contains codewords
pub read-some : (v mask : ℕ) (g : Grid) → 1 ≤ v → v ≤ 40 → (cw : List ℕ) × IsRead v mask g cw
read-some v mask g p h =
    let t = total_codewords_of v in let o = to_come-start v in
    let bits = read_bits v mask g (to_come v (first_cursor v)) in
    let many : length bits ≡ 8 * t = search (arith, length-append, length-map, length-take, length-replicate) in
    let w = bytes-takes t bits (omega arith) in
    let same = append-front _ _ [] (drop (8 * t) bits) (let l = length-bits_of (bytes_of t bits) in omega arith) (append-nil _ ∙ w.2) in
    search arith

-- the codewords of which a square is drawn are read from it
pub grid-read : (v : ℕ) (l : Level) (mask : ℕ) (cw : List ℕ) → 1 ≤ v → v ≤ 40 → length cw ≡ total_codewords_of v → All (λ x. x < 256) cw → IsRead v mask (grid_of v l mask cw) cw
grid-read v l mask cw p h n a = let o = to_come-start v in search (arith, read-grid)

-- the square that is drawn for the codewords of a message contains this message
pub message-read : (v : ℕ) (l : Level) (mask : ℕ) (d cw : List ℕ) → 1 ≤ v → v ≤ 40 → length cw ≡ total_codewords_of v → All (λ x. x < 256) cw → length d ≡ data_codewords_of v l → IsInterleaved v l d cw → IsMessage v l mask (grid_of v l mask cw) d
message-read v l mask d cw p h n a m i = let o = to_come-start v in search (arith, read-grid)

-- a square contains at most one message
pub message-one : (v : ℕ) (l : Level) (mask : ℕ) (g : Grid) (d e : List ℕ) → 1 ≤ v → v ≤ 40 → IsMessage v l mask g d → IsMessage v l mask g e → d ≡ e
message-one v l mask g d e p q h k =
    let whole = data-sizes-whole v l p q in
    data-one _ d e _ (h.many ∙ sym whole) (k.many ∙ sym whole) h.interleaved (subst (IsInterleaved v l e) (read-one v _ g _ _ k.read h.read) k.interleaved)
