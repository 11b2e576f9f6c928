-- A mark is 0 exactly if its codeword is not erased. So to mend by marks is to mend without the modules that were not
-- read.
use Rattle.std.proofs.Common.{◌≡◌, ◌==◌, ◌||◌, not, cond, Bool, true, false, ℕ, zero, suc, ◌+◌, ◌-◌, ◌*◌, ◌<◌, ◌≤◌, None, Some, List, [], ◌∷◌, ◌++◌, map, take, drop, length, get_or, refl, sym, ◌∙◌, ap, arith}
use Rattle.std.proofs.lemmas.List.{append-nil, length-map, length-take, take_at, take-map, take-take, drop_at, drop-drop, drop-map, drop-take}
use Rattle.std.{proofs.lemmas.List.Elements.All-tail, specs.List.{list_any, All}}
use Rattle.qr_layout.specs.{declared.{level.Level.Level, region.Module.Module}, Blocks.{blocks_of, spare_of}, Order.IsOrder, Version.total_codewords_of}
use Rattle.qr_layout.proofs.Facts.{below, below-at, only-order, order-length}
use Rattle.qr_bits.{specs.Bits.{bits_of, field}, proofs.Facts.{length-bits_of, length-field}}
use Rattle.{qr_matrix.{proofs.Facts.same-same, specs.Grid.{Grid, colour, is_same}}, qr_symbol.specs.Reading.{unmasked, IsRead, IsReadUnmasked}}
use Rattle.qr_mending.specs.declared.erasures.Changes.{Changes}
use Rattle.qr_mending.specs.{Erasures.read_of, Steps.Message.{read_by, IsMendedMessage}, Message.{modules_of, read_at, received, IsMendedIn, AreIndices}}
use Rattle.qr_mending.proofs.lemmas.message.MessageLemmas.{in-blocks-one, indices-some, item, items-in-blocks, received-all, received-map}

-- ---- the modules of a codeword

-- the bits of one codeword
codeword-bits : (cs : List ℕ) (j : ℕ) → j < length cs → take 8 (drop (8 * j) (bits_of cs)) ≡ field 8 (get_or cs j 0)
unfolding bits_of
codeword-bits [] j l = absurd (omega arith)
codeword-bits (c ∷ cs) zero l = take_at (field 8 c) (bits_of cs) 8 (length-field 8 c)
codeword-bits (c ∷ cs) (suc j) l =
    let n : 8 * suc j ≡ 8 + 8 * j = omega arith in
    cc (
      drop-drop (8 * j) 8 (field 8 c ++ bits_of cs),
      drop_at (field 8 c) (bits_of cs) 8 (length-field 8 c),
      codeword-bits cs j (omega arith),
    )

-- codewords are as many as their modules allow
many-read : (f : Module → Bool) (ms : List Module) (cw : List ℕ) (n : ℕ) →
    bits_of cw ≡ map f (take (8 * n) ms) → 8 * n ≤ length ms → length cw ≡ n
many-read f ms cw n e l =
    omega (arith, ap (length {A = Bool}) e, length-map (take (8 * n) ms) f, length-take (8 * n) ms, length-bits_of cw)

-- the bits of codeword j are read from its eight modules
pub codeword-read : (f : Module → Bool) (ms : List Module) (cw : List ℕ) (n j : ℕ) →
    bits_of cw ≡ map f (take (8 * n) ms) → length cw ≡ n → j < n → field 8 (get_or cw j 0) ≡ map f (take 8 (drop (8 * j) ms))
codeword-read f ms cw n j e many l =
    let k = 8 * j in
    let rest = 8 * n - k in
    let whole : 8 * n ≡ k + rest = omega arith in
    cc (
      codeword-bits cw j (omega arith),
      drop-map f k (take (8 * n) ms),
      take-map f 8 (drop k (take (8 * n) ms)),
      drop-take k rest ms,
      take-take 8 rest (drop k ms) (omega arith),
    )

-- the bits of the codewords of a square are read from the modules in order
pub codewords-bits : (v mask : ℕ) (g : Grid) (ms : List Module) (cw : List ℕ) → 1 ≤ v → v ≤ 40 →
    IsOrder v ms → IsRead v mask g cw → bits_of cw ≡ map (unmasked mask g) (take (8 * total_codewords_of v) ms)
codewords-bits v mask g ms cw p q o h =
    let t = 8 * total_codewords_of v in
    let none : t - length ms ≡ 0 = omega (arith, order-length v ms p q o) in
    cc (only-order v h.places ms h.order o, append-nil (map (unmasked mask g) (take t ms)))

-- the number of codewords of a square
pub codewords-many : (v mask : ℕ) (g : Grid) (cw : List ℕ) → 1 ≤ v → v ≤ 40 → IsRead v mask g cw →
    length cw ≡ total_codewords_of v
codewords-many v mask g cw p q h =
    many-read (unmasked mask g) h.places cw (total_codewords_of v) (codewords-bits v mask g h.places cw p q h.order h)
    (omega (arith, order-length v h.places p q h.order))

-- ---- marks

-- the number of marks of a square
marks-many : (v : ℕ) (unknown : Grid) (marks : List ℕ) → 1 ≤ v → v ≤ 40 →
    IsReadUnmasked v unknown marks → length marks ≡ total_codewords_of v
marks-many v unknown marks p q h =
    many-read (λ m. colour unknown m.row m.col) h.places marks (total_codewords_of v) h.bits
    (omega (arith, order-length v h.places p q h.order))

-- each byte is 0 exactly if it has no bit that is 1, computed
is_marked : ℕ → Bool
is_marked x = is_same (list_any (λ b. b) (field 8 x)) (not (x == 0))

bytes-marked : below 256 is_marked ≡ true
unfolding field is_marked
bytes-marked = refl

any-read : (f : Module → Bool) (ms : List Module) → list_any f ms ≡ list_any (λ b. b) (map f ms)
any-read f [] = refl
any-read f (m ∷ ms) = ap (λ (b : Bool). f m || b) (any-read f ms)

-- a codeword is erased exactly if its mark is not 0
abbrev AgreesAt : Grid → List Module → List ℕ → ℕ → Type 0
AgreesAt unknown places marks k =
    list_any (λ m. colour unknown m.row m.col) (modules_of places k) ≡ not (get_or marks k 0 == 0)

-- the marks agree with the square at each codeword of the symbol
mark-agrees : (v : ℕ) (unknown : Grid) (marks : List ℕ) (k : ℕ) → 1 ≤ v → v ≤ 40 →
    (h : IsReadUnmasked v unknown marks) → k < total_codewords_of v → AgreesAt unknown h.places marks k
unfolding is_marked
mark-agrees v unknown marks k p q h l =
    let f : Module → Bool = λ m. colour unknown m.row m.col in
    let many = marks-many v unknown marks p q h in
    let mark = get_or marks k 0 in
    let byte : mark < 256 = h.bytes k 0 (omega arith) in
    any-read f (modules_of h.places k)
    ∙ (ap (list_any (λ (b : Bool). b)) (sym (codeword-read f h.places marks (total_codewords_of v) k h.bits many l))
    ∙ same-same _ _ (below-at 256 is_marked bytes-marked mark byte))

read-next : (x : ℕ) (xs : List ℕ) (b : Bool) (bs : List Bool) →
    read_of (x ∷ xs) (b ∷ bs) ≡ cond b None (Some x) ∷ read_of xs bs
read-next x xs true bs = refl
read-next x xs false bs = refl

-- what is read by marks
read-marked : (unknown : Grid) (places : List Module) (cw marks ks : List ℕ) → All (AgreesAt unknown places marks) ks →
    read_by (map (item cw) ks) (map (item marks) ks) ≡ map (read_at unknown places cw) ks
read-marked unknown places cw marks [] h = refl
read-marked unknown places cw marks (k ∷ ks) h =
    let here = h 0 k (omega arith) in
    search (
      arith,
      All-tail,
      item,
      read-next,
      read-marked unknown places cw marks ks
          (All-tail (AgreesAt unknown places marks) k ks h),
    )

-- what is read by marks of block i
block-marked : (v : ℕ) (l : Level) (unknown : Grid) (cw marks ks js : List ℕ) (i : ℕ) → 1 ≤ v → v ≤ 40 →
    (h : IsReadUnmasked v unknown marks) → AreIndices v l ks js →
    read_by (received (blocks_of v l) (map (item cw) ks) (map (item cw) js) i)
    (received (blocks_of v l) (map (item marks) ks) (map (item marks) js) i)
    ≡ map (read_at unknown h.places cw) (received (blocks_of v l) ks js i)
block-marked v l unknown cw marks ks js i p q h inside =
    search (arith, received-all, mark-agrees, received-map, read-marked)

-- ---- mending by marks is mending with the modules that were not read

-- codewords that can be mended without the modules that were not read can be mended by their marks
pub by-marks : (v : ℕ) (l : Level) (unknown : Grid) (cw marks message : List ℕ) (changed : List Changes) → 1 ≤ v → v ≤ 40 →
    length cw ≡ total_codewords_of v → IsReadUnmasked v unknown marks → IsMendedIn unknown v l cw message changed →
    IsMendedMessage (blocks_of v l) (spare_of v l) cw marks message changed
by-marks v l unknown cw marks message changed p q long h m =
    let ks = m.indices in
    let js = m.checks in
    record {
      codewords = map (item cw) ks;
      checks = map (item cw) js;
      unread = map (item marks) ks;
      unread_checks = map (item marks) js;
      in_blocks = items-in-blocks (blocks_of v l) (total_codewords_of v) cw ks js long m.inside;
      marked = search (arith, items-in-blocks, marks-many);
      mended = record {
        long = m.long;
        many = m.many;
        each = λ i r.
            rw (
              block-marked v l unknown cw marks ks js i p q h m.inside,
              received-map (blocks_of v l) (item cw) ks js i,
              only-order v h.places m.places h.order m.order,
            ) (m.each i r);
      };
    }

-- codewords that can be mended by their marks can be mended without the modules that were not read
pub of-marks : (v : ℕ) (l : Level) (unknown : Grid) (cw marks message : List ℕ) (changed : List Changes) → 1 ≤ v → v ≤ 40 →
    length cw ≡ total_codewords_of v → IsReadUnmasked v unknown marks →
    IsMendedMessage (blocks_of v l) (spare_of v l) cw marks message changed → IsMendedIn unknown v l cw message changed
of-marks v l unknown cw marks message changed p q long h m =
    let b = blocks_of v l in
    let n = total_codewords_of v in
    let some = indices-some v l p q in
    let ks = some.0 in
    let js = some.1 in
    let inside = some.2 in
    let codewords = items-in-blocks b n cw ks js long inside in
    let unread = items-in-blocks b n marks ks js (marks-many v unknown marks p q h) inside in
    let x = in-blocks-one b cw m.codewords m.checks (map (item cw) ks) (map (item cw) js) m.in_blocks codewords in
    let y = in-blocks-one b marks m.unread m.unread_checks (map (item marks) ks) (map (item marks) js) m.marked unread in
    record {
      places = h.places;
      order = h.order;
      indices = ks;
      checks = js;
      inside = inside;
      long = m.mended.long;
      many = m.mended.many;
      each = λ i r.
          rw (x.0, x.1, y.0, y.1, block-marked v l unknown cw marks ks js i p q h inside, received-map b (item cw) ks js i) at
          (m.mended.each i r);
    }
