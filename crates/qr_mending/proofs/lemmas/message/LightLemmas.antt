-- A symbol of which all modules were read: its marks are 0, no codeword is erased, and its blocks are mended as blocks
-- of which every codeword was read.
use Rattle.{qr_bits.{proofs.Facts.length-bits_of, specs.Bits.{bits_of, field}}, qr_field.proofs.lemmas.laws.DistanceLemmas.{erasures-read}}
use Rattle.{qr_field.specs.{Distance.differences, Polynomial.IsCorrection}, qr_layout.proofs.Facts.{col-in, order-length, row-in}}
use Rattle.qr_layout.specs.{Blocks.{blocks_of, correctable_of}, Region.InRegion, Version.{side_of, total_codewords_of}, declared.blocks.Blocks.Blocks}
use Rattle.{qr_layout.specs.declared.{level.Level.Level, region.Module.Module}, qr_matrix.specs.{BitRow.has_bit, Grid.{Grid, colour, light, rows_of}}}
use Rattle.qr_mending.{proofs.lemmas.erasures.{changes-unerased, unerased}, specs.Message.no_changes}
use Rattle.qr_mending.proofs.lemmas.message.{MarkLemmas.codewords-many, MessageLemmas.{in-blocks-one, indices-some, item, items-in-blocks, received-map}}
use Rattle.{qr_mending.specs.Message.{modules_of, read_at, received, IsMendedIn, AreInBlocks}, qr_symbol.proofs.Facts.{map-each, read-some}}
use Rattle.qr_symbol.specs.{Interleaving.{block_count, codeword_count, data_sizes, part_of}, Reading.{IsRead, IsReadUnmasked}}
use Rattle.std.proofs.Common.{◌≡◌, ◌||◌, Bool, false, ℕ, zero, suc, ◌==◌, ◌*◌, ◌+◌, ◌-◌, ◌%◌, ◌^◌, ◌<◌, ◌≤◌, inl, inr, Some, List, [], ◌∷◌, ◌++◌, map, take, length, get_or, refl, sym, ap, ◌∙◌, arith}
use Rattle.std.proofs.{Math.Nat.zero-div, lemmas.{Bool.cases_lt, List.{get_or-map, length-map, length-replicate, length-take, Elements.{All-replicate, All-take}}}}
use Rattle.std.specs.List.{list_any, range_with_len}
use lib.ListN.{replicate}

-- ---- the marks of a light square

-- every colour is light
abbrev pub AreLight : List Bool → Type 0
AreLight [] = Unit {0}
AreLight (b ∷ bs) = (b ≡ false) × AreLight bs

append-light : (xs ys : List Bool) → AreLight xs → AreLight ys → AreLight (xs ++ ys)
append-light [] ys h k = k
append-light (x ∷ xs) ys h k = (h.0, append-light xs ys h.1 k)

light-same : (xs ys : List Bool) → AreLight xs → AreLight ys → length xs ≡ length ys → xs ≡ ys
light-same [] [] h k n = refl
light-same [] (y ∷ ys) h k n = absurd (omega arith)
light-same (x ∷ xs) [] h k n = absurd (omega arith)
light-same (x ∷ xs) (y ∷ ys) h k n = cc (light-same xs ys h.1 k.1 (omega arith))

-- the bits of zeros
bits-light : (n : ℕ) → AreLight (bits_of (replicate n 0))
unfolding bits_of field
bits-light zero = tt
bits-light (suc n) = search (arith, append-light, bits_of, bits-light n)

-- a module of a light square, or outside it
light-row : (cs : List ℕ) (c : ℕ) → get_or (map (λ _. false) cs) c false ≡ false
light-row [] c = refl
light-row (x ∷ cs) zero = refl
light-row (x ∷ cs) (suc c) = light-row cs c

light-rows : (rs cs : List ℕ) (r c : ℕ) → get_or (get_or (map (λ _. map (λ _. false) cs) rs) r []) c false ≡ false
light-rows [] cs r c = refl
light-rows (x ∷ rs) cs zero c = light-row cs c
light-rows (x ∷ rs) cs (suc r) c = light-rows rs cs r c

pub colour-light : (s r c : ℕ) → colour (light s) r c ≡ false
unfolding colour rows_of
colour-light s r c = light-rows (range_with_len 0 s) (range_with_len 0 s) r c

colours-light : (s : ℕ) (ms : List Module) → AreLight (map (λ m. colour (light s) m.row m.col) ms)
colours-light s [] = tt
colours-light s (m ∷ ms) = (colour-light s m.row m.col, colours-light s ms)

-- a bit of 0
no-bit : (c : ℕ) → has_bit 0 c ≡ false
unfolding has_bit
no-bit c = ap (λ t. t % 2 == 1) (zero-div (2 ^ c))

-- a bit of a row of which three words are 0
pub row-light : (has : ℕ → Bool) (a b d : ℕ) → ((k : ℕ) → 0 % 64 + k < 64 → has_bit a k ≡ has (0 + k)) →
    ((k : ℕ) → 64 % 64 + k < 64 → has_bit b k ≡ has (64 + k)) → ((k : ℕ) → 128 % 64 + k < 64 → has_bit d k ≡ has (128 + k)) →
    a ≡ 0 → b ≡ 0 → d ≡ 0 → (c : ℕ) → c < 192 → has c ≡ false
row-light has a b d ha hb hd ea eb ed c l = elim (cases_lt c 64) [
  | inl m ↦
      let at : 0 + c ≡ c = omega arith in
      cc (ha c (omega arith), no-bit c)
  | inr m ↦ elim (cases_lt c 128) [
    | inl n ↦
        let at : 64 + (c - 64) ≡ c = omega arith in
        cc (hb (c - 64) (omega arith), no-bit (c - 64))
    | inr n ↦
        let at : 128 + (c - 128) ≡ c = omega arith in
        cc (hd (c - 128) (omega arith), no-bit (c - 128))
  ]
]

-- the marks of a square with no dark module
pub no-marks : (v : ℕ) (u : Grid) → 1 ≤ v → v ≤ 40 → u.side ≡ side_of v →
    ((r c : ℕ) → r < u.side → c < u.side → colour u r c ≡ false) →
    IsReadUnmasked v u (replicate (total_codewords_of v) 0)
no-marks v u p q e h =
    let w = (read-some v 0 u p q).1 in
    let n = total_codewords_of v in
    let zeros : List ℕ = replicate n 0 in
    let some : List Module = take (8 * n) w.places in
    let colour_of : Module → Bool = λ m. colour (light u.side) m.row m.col in
    let many = order-length v w.places p q w.order in
    record {
      bytes = All-replicate (λ x. x < 256) n 0 (omega arith);
      places = w.places;
      order = w.order;
      bits =
          light-same (bits_of zeros) (map colour_of some) (bits-light n) (colours-light u.side some)
          (omega (
            arith,
            length-bits_of zeros,
            length-replicate {A = ℕ} n 0,
            length-map some colour_of,
            length-take (8 * n) w.places,
          ))
          ∙ map-each (InRegion v) colour_of (λ m. colour u m.row m.col) some
          (All-take (InRegion v) (8 * n) w.places w.order.in_region)
          (λ t i. colour-light u.side t.row t.col
          ∙ sym (h t.row t.col (omega (arith, row-in v t i)) (omega (arith, col-in v t i))));
    }

-- ---- what is read of a symbol of which all modules were read

none-unread : (s : ℕ) (ms : List Module) → list_any (λ m. colour (light s) m.row m.col) ms ≡ false
none-unread s [] = refl
none-unread s (m ∷ ms) = λ i. colour-light s m.row m.col i || none-unread s ms i

-- no codeword is erased
all-read : (s : ℕ) (places : List Module) (cw ks : List ℕ) →
    map (read_at (light s) places cw) ks ≡ map (λ x. Some x) (map (item cw) ks)
all-read s places cw [] = refl
all-read s places cw (k ∷ ks) = cc (none-unread s (modules_of places k), all-read s places cw ks)

-- ---- blocks

-- block `i`, of which every codeword was read, can be mended to block `i` of `message`: at most `t` of its codewords
-- differ
pub record IsUnerasedBlock (b : Blocks) (t : ℕ) (d e message : List ℕ) (changed i : ℕ) : Type 0 where
  pub correction : List ℕ
  pub corrects : IsCorrection (part_of (data_sizes b) message i) b.ec_len correction
  pub few : changed ≤ t
  pub count : changed ≡ differences (received b d e i) (part_of (data_sizes b) message i ++ correction)

-- blocks that were read as `d` and `e`, each codeword of them, can be mended to `message`
pub record AreUnerasedBlocks (b : Blocks) (t : ℕ) (d e message changed : List ℕ) : Type 0 where
  pub long : length message ≡ codeword_count (data_sizes b)
  pub many : length changed ≡ block_count (data_sizes b)
  pub each : (i : ℕ) → i < block_count (data_sizes b) → IsUnerasedBlock b t d e message (get_or changed i 0) i

-- codewords whose blocks can be mended so, if all modules were read
pub light-mended : (v mask s : ℕ) (l : Level) (g : Grid) (cw d e message changed : List ℕ) → 1 ≤ v → v ≤ 40 → IsRead v mask g cw →
    AreInBlocks (blocks_of v l) cw d e → AreUnerasedBlocks (blocks_of v l) (correctable_of v l) d e message changed →
    IsMendedIn (light s) v l cw message (map unerased changed)
light-mended v mask s l g cw d e message changed p q h inside m =
    let b = blocks_of v l in
    let some = indices-some v l p q in
    let ks = some.0 in
    let js = some.1 in
    let indexed = items-in-blocks b (total_codewords_of v) cw ks js (codewords-many v mask g cw p q h) some.2 in
    let same = in-blocks-one b cw (map (item cw) ks) (map (item cw) js) d e indexed inside in
    record {
      places = h.places;
      order = h.order;
      indices = ks;
      checks = js;
      inside = some.2;
      long = m.long;
      many = length-map changed unerased ∙ m.many;
      each = λ i r.
          let read = received b ks js i in
          let all : map (read_at (light s) h.places cw) read ≡ map (λ x. Some x) (received b d e i) =
          cc (all-read s h.places cw read, received-map b (item cw) ks js i) in
          let at : get_or (map unerased changed) i no_changes ≡ unerased (get_or changed i 0) = search (arith, get_or-map) in
          let block = m.each i r in
          let values : map (item cw) read ≡ received b d e i = cc (received-map b (item cw) ks js i) in
          rw (at, all, values) (record {
            correction = block.correction;
            corrects = block.corrects;
            few = omega (arith, erasures-read (received b d e i), block.few);
            count = cc (block.count, changes-unerased (received b d e i) (received b d e i) _);
          });
    }
