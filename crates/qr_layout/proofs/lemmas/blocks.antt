-- Facts of the blocks that are computed for each version and level.
use Rattle.std.proofs.Common.{◌≡◌, ℕ, ◌+◌, ◌-◌, ◌*◌, ◌/◌, ◌%◌, ◌<◌, ◌≤◌, Bool, true, ◌&&◌, ◌||◌, leb, refl, arith}
use Rattle.std.proofs.lemmas.{Bool.Decides.nat_tests, Nat.div-add-mod'}
use borrow.Author.Tests.{leb-true}
use Rattle.qr_layout.specs.{declared.level.Level.{Level, TheVariants.{L, M, Q, H}}, Version.total_codewords_of}
use Rattle.qr_layout.specs.Blocks.{correction_len_of, block_count_of, data_codewords_of, capacity_of, blocks_of, longest_of, damage_of, AreWhole}
use Rattle.qr_layout.proofs.lemmas.alignment.{below, below-from}

-- a test at each version
abbrev pub each : (ℕ → Bool) → Bool
each p = below 40 (λ i. p (i + 1))

-- a test at each level and version
abbrev pub every : (Level → ℕ → Bool) → Bool
every p = each (p L) && (each (p M) && (each (p Q) && each (p H)))

-- if a test passes for all levels and versions, it passes for each level and version
pub every-at : (p : Level → ℕ → Bool) → every p ≡ true → (l : Level) (v : ℕ) → 1 ≤ v → v ≤ 40 → p l v ≡ true
every-at p h l v a b = below-from 40 1 (p l) (elim l as (λ l. each (p l) ≡ true) [ L ↦ w.0 | M ↦ w.1 | Q ↦ w.2 | H ↦ w.3 ]) v a (omega arith)
  where
    four : (x y z t : Bool) → (x && (y && (z && t))) ≡ true → (x ≡ true) × (y ≡ true) × (z ≡ true) × (t ≡ true)
    four x y z t h = (grind (arith, nat_tests), grind (arith, nat_tests), grind (arith, nat_tests), grind (arith, nat_tests))

    w : (each (p L) ≡ true) × (each (p M) ≡ true) × (each (p Q) ≡ true) × (each (p H) ≡ true)
    w = four (each (p L)) (each (p M)) (each (p Q)) (each (p H)) h

-- the facts that were computed of the tables
pub record Laws (l : Level) (v : ℕ) : Type 0 where
  pub fits : block_count_of v l * correction_len_of v l ≤ total_codewords_of v
  pub count : 1 ≤ block_count_of v l
  pub most_count : block_count_of v l ≤ 81
  pub len : data_codewords_of v l / block_count_of v l ≤ 122
  pub some_len : 1 ≤ data_codewords_of v l / block_count_of v l
  pub ec_least : 1 ≤ correction_len_of v l
  pub ec_most : correction_len_of v l ≤ 30
  pub least : 9 ≤ data_codewords_of v l
  pub most : data_codewords_of v l ≤ 2956
  pub most_middle : v ≤ 26 → data_codewords_of v l ≤ 1370
  pub most_small : v ≤ 9 → data_codewords_of v l ≤ 232

-- the tests of these facts
abbrev are_lawful : Level → ℕ → Bool
are_lawful l v =
    leb (block_count_of v l * correction_len_of v l) (total_codewords_of v) && leb 1 (block_count_of v l) && leb (block_count_of v l) 81
    && leb (data_codewords_of v l / block_count_of v l) 122 && leb 1 (data_codewords_of v l / block_count_of v l)
    && leb 1 (correction_len_of v l) && leb (correction_len_of v l) 30
    && leb 9 (data_codewords_of v l) && leb (data_codewords_of v l) 2956 && (leb 27 v || leb (data_codewords_of v l) 1370) && (leb 10 v || leb (data_codewords_of v l) 232)

all-lawful : every are_lawful ≡ true
unfolding block_count_of correction_len_of data_codewords_of total_codewords_of
all-lawful = refl

-- the facts hold for each level and version, since their tests do
pub laws-of : (l : Level) (v : ℕ) → 1 ≤ v → v ≤ 40 → Laws l v
laws-of l v a b = let h : are_lawful l v ≡ true = every-at are_lawful all-lawful l v a b in record {
  fits = grind (arith, nat_tests);
  count = grind (arith, nat_tests);
  most_count = grind (arith, nat_tests);
  len = grind (arith, nat_tests);
  some_len = grind (arith, nat_tests);
  ec_least = grind (arith, nat_tests);
  ec_most = grind (arith, nat_tests);
  least = grind (arith, nat_tests);
  most = grind (arith, nat_tests);
  most_middle = λ k. grind (arith, nat_tests);
  most_small = λ k. grind (arith, nat_tests);
}

-- products of equal numbers are equal
same-product : (a b c d : ℕ) → a ≡ c → b ≡ d → a * b ≡ c * d
same-product a b c d e f = cc

-- the product that the code computes is not above the total
pub product-fits : (l : Level) (v t b n : ℕ) → 1 ≤ v → v ≤ 40 → t ≡ total_codewords_of v → b ≡ block_count_of v l → n ≡ correction_len_of v l → b * n ≤ t
product-fits l v t b n h k et eb en = search (arith, laws-of, same-product)

-- the quotient that the code computes fits a byte
pub quotient-fits : (l : Level) (v b d : ℕ) → 1 ≤ v → v ≤ 40 → b ≡ block_count_of v l → d ≡ data_codewords_of v l → d / b ≤ 122
quotient-fits l v b d h k eb ed = let f = (laws-of l v h k).len in search arith

-- k + r parts, of which r parts are longer by one, have r more items
cut : (k r q : ℕ) → k * q + r * (q + 1) ≡ q * (k + r) + r
cut k r q = omega arith

-- if items are divided as evenly as possible, the parts together have all items
blocks-sum : (b d : ℕ) → 0 < b → (b - d % b) * (d / b) + d % b * (d / b + 1) ≡ d
blocks-sum b d p =
    let c = cut (b - d % b) (d % b) (d / b) in
    let f : b - d % b + d % b ≡ b = omega arith in
    cc (div-add-mod' d b)

-- data and error correction codewords make up the symbol
blocks-total : (l : Level) (v r : ℕ) → 1 ≤ v → v ≤ 40 → r ≤ block_count_of v l → data_codewords_of v l + (block_count_of v l - r + r) * correction_len_of v l ≡ total_codewords_of v
unfolding data_codewords_of
blocks-total l v r h k lr = search (arith, laws-of)

-- the blocks of each version and level together have its codewords
pub blocks-sound : (l : Level) (v : ℕ) → 1 ≤ v → v ≤ 40 → AreWhole v l (blocks_of v l)
blocks-sound l v h k = search (arith, blocks-sum, blocks-total, laws-of l v h k)

-- no block has more than 153 codewords, computed
longest-all : every (λ l v. leb (longest_of (blocks_of v l)) 153) ≡ true
unfolding block_count_of correction_len_of data_codewords_of total_codewords_of
longest-all = refl

-- the longest block of each version and level
pub blocks-short : (l : Level) (v : ℕ) → 1 ≤ v → v ≤ 40 → longest_of (blocks_of v l) ≤ 153
blocks-short l v h k = leb-true _ _ (every-at (λ l v. leb (longest_of (blocks_of v l)) 153) longest-all l v h k)

-- half the error correction codewords are at least the percentage `damage_of` of the longest block, computed
damage-all : every (λ l v. leb (damage_of l * longest_of (blocks_of v l)) (100 * ((blocks_of v l).ec_len / 2))) ≡ true
unfolding block_count_of correction_len_of data_codewords_of total_codewords_of
damage-all = refl

-- half the error correction codewords are at least the percentage `damage_of` of the longest block
pub damage-stood : (l : Level) (v : ℕ) → 1 ≤ v → v ≤ 40 → damage_of l * longest_of (blocks_of v l) ≤ 100 * ((blocks_of v l).ec_len / 2)
damage-stood l v h k = leb-true _ _ (every-at (λ l v. leb (damage_of l * longest_of (blocks_of v l)) (100 * ((blocks_of v l).ec_len / 2))) damage-all l v h k)

-- the bits of all data codewords of a symbol
pub capacity_bounds : (v : ℕ) (l : Level) → 1 ≤ v → v ≤ 40 → (72 ≤ capacity_of v l) × (capacity_of v l ≤ 23648)
capacity_bounds v l a b = let h = laws-of l v a b in (omega (arith, h.least), omega (arith, h.most))
