-- A sequence is gathered in at most one way, also the indices of its codewords.
use Rattle.std.proofs.Common.{◌≡◌, ℕ, ◌+◌, ◌<◌, ◌≤◌, List, map, drop, length, length-drop, get_or, refl, sym, ◌∙◌, ap, subst, arith}
use Rattle.std.proofs.lemmas.List.{length-map, take-map, drop-map, map-append, ext_get_or, get_or-map}
use Rattle.std.proofs.lemmas.List.Elements.{All-append, All-contains, All-drop, All-from_get_or, All-take}
use Rattle.std.proofs.lemmas.{List.FromFn.{fill_by_all, get_or-range_with_len, length-range_with_len}, Simd.map-map}
use Rattle.{std.specs.List.{range_with_len, All}, qr_mending.specs.Message.{received, AreInBlocks}}
use Rattle.qr_layout.specs.{declared.{blocks.Blocks.Blocks, level.Level.Level}, Blocks.blocks_of, Version.total_codewords_of}
use Rattle.qr_symbol.specs.declared.interleaving.BlockSizes.{BlockSizes}
use Rattle.qr_symbol.specs.Interleaving.{Position, IsPosition, block_count, codeword_count, codeword_at, data_sizes, correction_sizes, IsGathered}
use Rattle.qr_symbol.proofs.Facts.{position-in, positions-one, position-of, map-at, map-each, gather-some, sizes-whole, Mem-of-Contains}

-- ---- one list of received codewords

-- a sequence is gathered in at most one way
pub gathered-same : (c : BlockSizes) (interleaved xs ys : List ℕ) → IsGathered c interleaved xs → IsGathered c interleaved ys → xs ≡ ys
gathered-same c interleaved xs ys g h =
    let one = positions-one c h.positions g.positions h.order g.order in
    let first : map (codeword_at c xs) g.positions ≡ map (codeword_at c ys) g.positions = cc in
    ext_get_or 0 xs ys (g.long ∙ sym h.long) (λ j l.
    let w = position-of c (block_count c) j (omega arith) (omega arith) in
    rw (← w.2) (map-at (codeword_at c xs) (codeword_at c ys) g.positions w.0 first (Mem-of-Contains g.positions w.0 (g.order.complete w.0 w.1))))

-- a sequence is put back into blocks in at most one way
pub in-blocks-one : (b : Blocks) (interleaved d e x y : List ℕ) → AreInBlocks b interleaved d e →
    AreInBlocks b interleaved x y → (d ≡ x) × (e ≡ y)
in-blocks-one b interleaved d e x y g h = search (arith, gathered-same)

-- ---- indices

-- a function of each item can be taken before a sequence is gathered, or after
gathered-map : (c : BlockSizes) (f : ℕ → ℕ) (xs ks : List ℕ) → IsGathered c xs ks → IsGathered c (map f xs) (map f ks)
gathered-map c f xs ks g = let read : Position → ℕ = λ t. f (codeword_at c ks t) in record {
  long = length-map ks f ∙ g.long;
  positions = g.positions;
  order = g.order;
  many = g.many;
  same =
      map-each (IsPosition c) (codeword_at c (map f ks)) read g.positions g.order.in_blocks (λ t i.
      search (arith, get_or-map, position-in c t.index t.block i))
      ∙ (sym (map-map f (codeword_at c ks) g.positions) ∙ (ap (map f) g.same ∙ sym (take-map f (codeword_count c) xs)));
}

-- what holds of each item of a sequence holds of each that is gathered
gathered-all : (c : BlockSizes) (P : ℕ → Type 0) (xs ks : List ℕ) → All P xs → IsGathered c xs ks → All P ks
gathered-all c P xs ks a g = All-from_get_or P ks 0 (λ j l.
    let w = position-of c (block_count c) j (omega arith) (let q = g.long in omega arith) in
    let read = codeword_at c ks in
    let each : All (λ (t : Position). P (read t)) g.positions =
    λ k t m. subst P (get_or-map read g.positions k t 0 m) ((subst (All P) (sym g.same) (All-take P (codeword_count c) xs a)) k 0 (omega (arith, length-map g.positions read))) in
    search (arith, All-contains))

-- the item at an index
abbrev pub item : List ℕ → ℕ → ℕ
item xs k = get_or xs k 0

-- the items at the indices that are put back into blocks
pub items-in-blocks : (b : Blocks) (n : ℕ) (xs ks js : List ℕ) → length xs ≡ n →
    AreInBlocks b (range_with_len 0 n) ks js → AreInBlocks b xs (map (item xs) ks) (map (item xs) js)
items-in-blocks b n xs ks js e h =
    let all : map (item xs) (range_with_len 0 n) ≡ xs = sym (fill_by_all (item xs) xs n 0 e (λ k l. refl)) in
    search (arith, drop-map, gathered-map)

-- as many codewords as the blocks have can be put back into blocks
pub in-blocks-some : (b : Blocks) (interleaved : List ℕ) →
    length interleaved ≡ codeword_count (data_sizes b) + codeword_count (correction_sizes b) →
    (ks : List ℕ) × (js : List ℕ) × AreInBlocks b interleaved ks js
in-blocks-some b interleaved long =
    let own = codeword_count (data_sizes b) in
    let first = gather-some (data_sizes b) interleaved (omega arith) in
    search (arith, gather-some (correction_sizes b) (drop own interleaved) (omega (arith, length-drop own interleaved)))

-- the indices of the codewords of a symbol can be put back into blocks
pub indices-some : (v : ℕ) (l : Level) → 1 ≤ v → v ≤ 40 →
    (ks : List ℕ) × (js : List ℕ) × AreInBlocks (blocks_of v l) (range_with_len 0 (total_codewords_of v)) ks js
indices-some v l p q = search (arith, in-blocks-some, length-range_with_len, sizes-whole)

-- the items of a block are those at its indices
pub received-map : (b : Blocks) (f : ℕ → ℕ) (ks js : List ℕ) (i : ℕ) →
    received b (map f ks) (map f js) i ≡ map f (received b ks js i)
received-map b f ks js i = search (arith, map-append, drop-map, take-map)

-- what holds of each codeword holds of those of a block
pub received-each : (b : Blocks) (P : ℕ → Type 0) (interleaved ks js : List ℕ) (i : ℕ) → All P interleaved →
    AreInBlocks b interleaved ks js → All P (received b ks js i)
received-each b P interleaved ks js i all inside = search (arith, gathered-all, All-drop, All-append, All-take)

-- what holds of the index of each codeword holds of those of a block
pub received-all : (b : Blocks) (P : ℕ → Type 0) (n : ℕ) (ks js : List ℕ) (i : ℕ) →
    ((k : ℕ) → k < n → P k) → AreInBlocks b (range_with_len 0 n) ks js → All P (received b ks js i)
received-all b P n ks js i h inside =
    let indices = range_with_len 0 n in
    let len = length-range_with_len 0 n in
    received-each b P indices ks js i (All-from_get_or P indices 0 (λ k r. search (arith, get_or-range_with_len))) inside
