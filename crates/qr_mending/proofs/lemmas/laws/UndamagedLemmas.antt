-- A square that is read without mending is read as the same content with mending, and no codeword is changed.
use Rattle.{qr_bits.specs.Parsing.Content, qr_field.{proofs.Facts.correction-one, specs.Polynomial.IsCorrection}}
use Rattle.qr_layout.specs.{Blocks.blocks_of, Format.format_word_of, declared.{blocks.Blocks.Blocks, level.Level.Level}}
use Rattle.qr_matrix.specs.{BitRow.has_bit, Grid.{Grid, light, is_same}, Sums.count_below}
use Rattle.qr_mending.{proofs.lemmas.erasures.unerased, specs.Message.no_changes}
use Rattle.qr_mending.proofs.lemmas.{block.differences-same, format.bits-alike, mending.best, message.LightLemmas.{colour-light, light-mended}}
use Rattle.qr_mending.specs.{Format.{bit_differences, copy_bit, copy_cost, IsNearFormat}, Mending.{HasFormat, IsMendedReading}}
use Rattle.qr_mending.specs.{Message.{AreInBlocks, IsMendedIn}, declared.format.FormatCopy.{FormatCopy, TheVariants.{First, Second}}}
use Rattle.qr_symbol.{proofs.Facts.{start-none, part-at, positions-many, checks-push, map-each, data-sizes-whole}, specs.Interleaving.blocks_in}
use Rattle.qr_symbol.specs.Interleaving.{block_count, codeword_count, IsPosition, codeword_at, data_sizes, correction_sizes, block_of, check_at, IsFinalMessage, part_of, IsChecks}
use Rattle.qr_symbol.specs.Reading.{IsFormat, IsRead, IsReading}
use Rattle.std.proofs.Common.{◌≡◌, ℕ, zero, suc, ◌+◌, ◌*◌, ◌<◌, ◌≤◌, Bool, false, not, ◌&&◌, List, [], ◌∷◌, ◌++◌, map, length, get_or, refl, sym, ap, ◌∙◌, arith}
use Rattle.std.proofs.lemmas.List.{length-map, take_all, take_at, drop_at, length-replicate, get_or-replicate}
use lib.ListN.{replicate}

-- ---- codewords

-- the error correction codewords of the first blocks, one after another
checks-some : (b : Blocks) (d : List ℕ) (cs : List (List ℕ)) (k : ℕ) → k ≤ block_count (data_sizes b) →
    ((i : ℕ) → i < block_count (data_sizes b) → IsCorrection (block_of b d i) b.ec_len (get_or cs i [])) →
    (es : List ℕ) × IsChecks b d k es
checks-some b d cs zero l h = search (arith, start-none)
checks-some b d cs (suc k) l h =
    let before = checks-some b d cs k (omega arith) h in
    let more = before.0 ++ get_or cs k [] in
    let here : k < block_count (data_sizes b) = omega arith in
    let next : k + 1 ≡ suc k = omega arith in
    (more, rw next at (checks-push b d before.0 more (get_or cs k []) k here before.1 (h k here) refl))

-- the data codewords and the error correction codewords of a final sequence, both gathered
pub record FinalInBlocks (b : Blocks) (d cw : List ℕ) (corrections : List (List ℕ)) : Type 0 where
  pub checks : List ℕ
  pub inside : AreInBlocks b cw d checks
  pub same : (i : ℕ) → i < block_count (data_sizes b) → part_of (correction_sizes b) checks i ≡ get_or corrections i []

-- from a final sequence its data codewords are gathered, and the error correction codewords of its blocks
pub final-in-blocks : (b : Blocks) (d cw : List ℕ) → length d ≡ codeword_count (data_sizes b) →
    (h : IsFinalMessage b d cw) → FinalInBlocks b d cw h.corrections
final-in-blocks b d cw n h =
    let own = data_sizes b in
    let sizes = correction_sizes b in
    let some = checks-some b d h.corrections (block_count own) (omega arith) h.each in
    let es = some.0 in
    let same : (i : ℕ) → i < block_count own → part_of sizes es i ≡ get_or h.corrections i [] =
    λ i l. correction-one (block_of b d i) b.ec_len (part_of sizes es i) (get_or h.corrections i []) (some.1.each i l) (h.each i l) in
    let first = map (codeword_at own d) h.data_positions in
    let last = map (codeword_at sizes es) h.check_positions in
    let each = map-each (IsPosition sizes) (codeword_at sizes es) (check_at h.corrections) h.check_positions
    h.check_order.in_blocks
    (λ u i. part-at sizes es u i ∙ ap (λ (xs : List ℕ). get_or xs u.index 0) (same u.block (let l = i.0 in omega arith))) in
    let many = positions-many own h.data_positions h.data_order in
    let rest = positions-many sizes h.check_positions h.check_order in
    search (arith, length-map, drop_at, take_at, take_all)

-- the changes of blocks of which no codeword is misread or erased
map-unerased : (n : ℕ) → map unerased (replicate n 0) ≡ replicate n no_changes
map-unerased zero = refl
map-unerased (suc n) = ap (λ t. no_changes ∷ t) (map-unerased n)

-- a final sequence is a damaged form of its message in which no codeword is changed
final-mended : (v mask s : ℕ) (l : Level) (g : Grid) (d cw : List ℕ) → 1 ≤ v → v ≤ 40 → IsRead v mask g cw →
    length d ≡ codeword_count (data_sizes (blocks_of v l)) → IsFinalMessage (blocks_of v l) d cw →
    IsMendedIn (light s) v l cw d (replicate (block_count (data_sizes (blocks_of v l))) no_changes)
final-mended v mask s l g d cw p q r n h =
    let b = blocks_of v l in
    let own = data_sizes b in
    let w = final-in-blocks b d cw n h in
    rw (sym (map-unerased (block_count own))) (light-mended v mask s l g cw d w.checks d (replicate (block_count own) 0) p q r w.inside (record {
      long = n;
      many = length-replicate (block_count own) 0;
      each = λ i k.
          let none = get_or-replicate {A = ℕ} (block_count own) i 0 0 k in
          let c = get_or h.corrections i [] in
          record {
            correction = c;
            corrects = h.each i k;
            few = omega arith;
            count = cc (differences-same (part_of own d i ++ c), w.same i k);
          };
    }))

-- ---- format information

bits-same : (n : ℕ) (p q : ℕ → Bool) → ((i : ℕ) → i < n → p i ≡ q i) → bit_differences n p q ≡ 0
bits-same zero p q h = refl
bits-same (suc n) p q h = search (arith, bits-same n p q (λ i l. h i (omega arith)))

cost-light : (n : ℕ) (u p q : ℕ → Bool) → ((i : ℕ) → u i ≡ false) →
    count_below n u + 2 * count_below n (λ i. not (u i) && not (is_same (p i) (q i))) ≡ 2 * bit_differences n p q
cost-light zero u p q h = refl
cost-light (suc n) u p q h = search (arith, cost-light n u p q h)

pub copy-light : (s : ℕ) (copy : FormatCopy) (g : Grid) (l : Level) (mask : ℕ) →
    copy_cost (light s) copy g l mask ≡ 2 * bit_differences 15 (copy_bit copy g) (has_bit (format_word_of l mask))
copy-light s copy g l mask = search (arith, cost-light, colour-light)

-- exact format information is near
format-near : (s : ℕ) (g : Grid) (l : Level) (mask : ℕ) → IsFormat g l mask → IsNearFormat (light s) First g l mask
format-near s g l mask h = record {
  in_range = h.in_range;
  near = omega (
    arith,
    bits-same 15 (copy_bit First g) (has_bit (format_word_of l mask)) h.bits,
    copy-light s First g l mask,
  );
}

bits-triangle : (n : ℕ) (p q r : ℕ → Bool) → bit_differences n p q ≤ bit_differences n p r + bit_differences n q r
bits-triangle zero p q r = omega arith
bits-triangle (suc n) p q r = search (arith, bits-triangle n p q r)

-- with an exact first copy no other level and mask cost less, whatever the second copy shows
format-exact : (g : Grid) (v : ℕ) (l : Level) (mask : ℕ) → IsFormat g l mask → HasFormat (light g.side) v g l mask
format-exact g v l mask h = best (light g.side) g First v l mask (format-near g.side g l mask h) (λ k n f x y d.
    let first = copy_bit First g in
    let here = has_bit (format_word_of l mask) in
    let there = has_bit (format_word_of k n) in
    let cost = copy-light g.side in
    omega (
      arith,
      bits-same 15 first here h.bits,
      bits-alike 15 first there here there h.bits (λ i r. refl),
      bits-triangle 15 (copy_bit Second g) here there,
      cost First g l mask,
      cost Second g l mask,
      cost First g k n,
      cost Second g k n,
    ))

-- ---- squares

-- a square that is read is mended with no codeword changed
pub reading-mended : (g : Grid) (p : Content) → (h : IsReading g p) →
    IsMendedReading (light g.side) g h.version h.level h.mask p (replicate (blocks_in h.version h.level) no_changes)
reading-mended g p h = search (arith, format-exact, final-mended, data-sizes-whole)
