-- The error correction codewords of all blocks, block after block, and the whole final sequence.
use Rattle.{qr_field.specs.Polynomial.IsCorrection, qr_layout.specs.declared.blocks.Blocks.Blocks}
use Rattle.qr_symbol.proofs.lemmas.interleaving.PositionLemmas.{start-next, start-most, part-at, part-grown, part-last}
use Rattle.qr_symbol.specs.Interleaving.{Position, IsPosition, block_count, block_len, start_of, codeword_count, codeword_at, check_at, data_sizes, correction_sizes, block_of, part_of, IsFinalMessage, IsGathered}
use Rattle.qr_symbol.specs.{Interleaving.IsChecks, declared.interleaving.BlockSizes.BlockSizes}
use Rattle.std.proofs.Common.{◌≡◌, ℕ, suc, ◌+◌, ◌<◌, ◌≤◌, List, [], ◌∷◌, ◌++◌, map, length, length-append, get_or, refl, sym, ◌∙◌, ap, inl, inr, arith}
use Rattle.std.proofs.lemmas.{Bool.{cases_lt, Decides.nat_tests}, List.{take_all, FromFn.{get_or-map-range_with_len, length-map-range_with_len}}}
use Rattle.std.specs.List.{All, range_with_len}

-- with the error correction codewords of one more block, the list is that of one block more
pub checks-push : (b : Blocks) (d xs ys es : List ℕ) (k : ℕ) → k < block_count (data_sizes b) → IsChecks b d k xs → IsCorrection (block_of b d k) b.ec_len es → ys ≡ xs ++ es → IsChecks b d (k + 1) ys
checks-push b d xs ys es k l h c e =
    let sizes = correction_sizes b in
    let long : length es ≡ block_len sizes k = search (arith, nat_tests) in
    rw e (record {
      long = cc (length-append xs es, start-next sizes k);
      each = λ i a. elim (cases_lt i k) [
        | inl s ↦ rw (part-grown sizes xs es i k h.long s) (h.each i s)
        | inr s ↦ (let q : i ≡ k = omega arith in rw (q, part-last sizes xs es k h.long long) c)
      ];
    })

-- the blocks before stay the same when a block is added to the data codewords
checks-grown : (b : Blocks) (d es xs : List ℕ) (k : ℕ) → length d ≡ start_of (data_sizes b) k → IsChecks b d k xs → IsChecks b (d ++ es) k xs
checks-grown b d es xs k n h = record {
  long = h.long;
  each = λ i l. rw (part-grown (data_sizes b) d es i k n l) (h.each i l);
}

-- one block more, with its data codewords
pub checks-block : (b : Blocks) (d xs es c : List ℕ) (k : ℕ) → k < block_count (data_sizes b) → length d ≡ start_of (data_sizes b) k → length es ≡ block_len (data_sizes b) k → IsCorrection es b.ec_len c → IsChecks b d k xs → IsChecks b (d ++ es) (k + 1) (xs ++ c)
checks-block b d xs es c k l n m h i =
    checks-push b (d ++ es) xs (xs ++ c) c k l (checks-grown b d es xs k n i) (rw (part-last (data_sizes b) d es k n m) h) refl

-- two functions that agree on all items of a list map it to the same list
pub map-each : {X Y : Type 0} (P : X → Type 0) (f g : X → Y) (xs : List X) → All P xs → ((x : X) → P x → f x ≡ g x) → map f xs ≡ map g xs
map-each P f g [] a e = refl
map-each P f g (x ∷ xs) a e = λ i. (e x (a 0 x (omega arith))) i ∷ (map-each P f g xs (λ k d l. a (suc k) d (omega arith)) e) i

-- a list is the codewords of all blocks in interleaved order
interleaved-is : (c : BlockSizes) (xs interleaved : List ℕ) → length interleaved ≡ codeword_count c → (g : IsGathered c interleaved xs) → interleaved ≡ map (codeword_at c xs) g.positions
interleaved-is c xs interleaved n g = search (arith, take_all)

-- the data codewords and then the error correction codewords were interleaved
pub both-interleaved : (b : Blocks) (d es first checks : List ℕ) → ((i : ℕ) → i < block_count (data_sizes b) → IsCorrection (block_of b d i) b.ec_len (part_of (correction_sizes b) es i)) → length first ≡ codeword_count (data_sizes b) → length checks ≡ codeword_count (correction_sizes b) → IsGathered (data_sizes b) first d → IsGathered (correction_sizes b) checks es → IsFinalMessage b d (first ++ checks)
both-interleaved b d es first checks h m n s t =
    let sizes = correction_sizes b in
    let blocks = block_count (data_sizes b) in
    let corrections = map (part_of sizes es) (range_with_len 0 blocks) in
    let part : (i : ℕ) → i < blocks → get_or corrections i [] ≡ part_of sizes es i =
    λ i l. get_or-map-range_with_len (part_of sizes es) 0 blocks i i [] l (omega arith) in
    let same : (u : Position) → IsPosition sizes u → codeword_at sizes es u ≡ check_at corrections u =
    λ u i. part-at sizes es u i ∙ ap (λ (xs : List ℕ). get_or xs u.index 0) (sym (part u.block (let l = i.0 in omega arith))) in
    record {
      data_positions = s.positions;
      data_order = s.order;
      corrections = corrections;
      count = length-map-range_with_len (part_of sizes es) 0 blocks;
      each = λ i l. rw (part i l) (h i l);
      check_positions = t.positions;
      check_order = t.order;
      whole = cc (interleaved-is _ d first m s, interleaved-is _ es checks n t, map-each _ _ _ _ t.order.in_blocks same);
    }

-- a block is inside the data codewords
pub slice-in : (c e : BlockSizes) (n s l k : ℕ) → c ≡ e → n ≡ start_of e (block_count e) → k < block_count c → s ≡ start_of c k → l ≡ block_len c k → s + l ≤ n
slice-in c e n s l k a o m f g = let q = start-most c (k + 1) (block_count c) (omega arith) in search arith

-- one more block, stated with the variables of the loop
pub push-checks : (b : Blocks) (d xs ys es : List ℕ) (c : BlockSizes) (k : ℕ) → c ≡ data_sizes b → k < block_count c → IsCorrection (part_of c d k) b.ec_len es → IsChecks b d k xs → ys ≡ xs ++ es → IsChecks b d (k + 1) ys
push-checks b d xs ys es c k a m e h q = checks-push b d xs ys es k (rw a at m) h (rw a at e) q
