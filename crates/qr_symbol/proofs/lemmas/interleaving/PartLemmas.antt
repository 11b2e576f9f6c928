-- Lists of codewords whose blocks are equal are equal.
use Rattle.std.proofs.Common.{◌≡◌, ℕ, zero, suc, ◌+◌, ◌<◌, List, length, take, drop, arith}
use Rattle.std.proofs.Math.Seq.{take-add, take-length}
use Rattle.qr_symbol.specs.{declared.interleaving.BlockSizes.BlockSizes, Interleaving.{block_count, block_len, start_of, codeword_count}}
use Rattle.qr_symbol.proofs.lemmas.interleaving.PositionLemmas.{start-none, start-next}

-- block i, where the list contains the codewords block after block
abbrev pub part : BlockSizes → List ℕ → ℕ → List ℕ
part c d i = take (block_len c i) (drop (start_of c i) d)

-- lists of codewords whose first blocks are equal are equal as far as these blocks reach
fronts-same : (c : BlockSizes) (d e : List ℕ) (i : ℕ) → ((j : ℕ) → j < i → part c d j ≡ part c e j)
    → take (start_of c i) d ≡ take (start_of c i) e
fronts-same c d e zero h = cc (start-none c)
fronts-same c d e (suc i) h =
    let f = fronts-same c d e i (λ j l. h j (omega arith)) in let more : suc i ≡ i + 1 = omega arith in
    search (arith, start-next, take-add)

-- lists of codewords with equal blocks are equal
pub parts-same : (c : BlockSizes) (d e : List ℕ) → length d ≡ codeword_count c → length e ≡ codeword_count c
    → ((j : ℕ) → j < block_count c → part c d j ≡ part c e j) → d ≡ e
parts-same c d e n m h = cc (take-length d, fronts-same c d e _ h, take-length e)
