-- A wrong module damages at most one codeword.
use Rattle.{qr_bits.specs.Bits.{bits_of, field}, qr_field.proofs.lemmas.laws.DistanceLemmas.{difference-most, difference-same}}
use Rattle.{qr_field.specs.Distance.{difference, differences}, qr_layout.specs.{Order.IsOrder, Version.total_codewords_of, declared.region.Module.Module}}
use Rattle.qr_matrix.{proofs.Facts.same-same, specs.{Difference.differs, Grid.Grid}}
use Rattle.qr_mending.{proofs.Facts.{codeword-read, codewords-bits, codewords-many, item}, specs.Message.modules_of}
use Rattle.{qr_theorems.specs.Damage.codeword_differences, qr_symbol.{proofs.Facts.bits-one, specs.Reading.{unmasked, IsRead}}}
use Rattle.std.proofs.Common.{◌≡◌, ℕ, ◌<◌, ◌≤◌, Bool, cond, List, [], ◌∷◌, ◌++◌, map, get_or, refl, ap, arith}
use Rattle.std.{proofs.lemmas.List.{Elements.{All-nil, All-cons, All-head, All-tail}, Sums.sum_by-cons}, specs.List.{All, count_by, sum_by}}

-- ---- one codeword

-- if no module differs, the same bits are read
same-bits : (mask : ℕ) (g h : Grid) (ms : List Module) → count_by (λ m. differs g h m.row m.col) ms ≡ 0 →
    map (unmasked mask g) ms ≡ map (unmasked mask h) ms
same-bits mask g h [] e = refl
same-bits mask g h (m ∷ ms) e =
    let more = sum_by-cons (λ (m : Module). cond (differs g h m.row m.col) 1 0) m ms in
    search (arith, same-same, same-bits mask g h ms (omega arith))

-- bytes with the same eight bits are equal
byte-one : (a b : ℕ) → a < 256 → b < 256 → field 8 a ≡ field 8 b → a ≡ b
unfolding bits_of
byte-one a b l m e =
    let single = λ (x : ℕ) (l : x < 256). All-cons (λ y. y < 256) x [] l (All-nil (λ y. y < 256)) in
    cc (bits-one (a ∷ []) (b ∷ []) (single a l) (single b m) (ap (λ (z : List Bool). z ++ []) e))

-- the bits of codeword j of a square are read from its eight modules
codeword-modules : (v mask : ℕ) (g : Grid) (ms : List Module) (cw : List ℕ) (j : ℕ) → 1 ≤ v → v ≤ 40 →
    IsOrder v ms → IsRead v mask g cw → j < total_codewords_of v →
    field 8 (get_or cw j 0) ≡ map (unmasked mask g) (modules_of ms j)
codeword-modules v mask g ms cw j p q o h l = search (arith, codeword-read, codewords-bits, codewords-many)

-- codeword j of two squares differs only if one of its modules differs
pub interleaved-differences : (v mask : ℕ) (g h : Grid) (ms : List Module) (cs ds : List ℕ) (j : ℕ) → 1 ≤ v →
    v ≤ 40 → IsOrder v ms → IsRead v mask g cs → IsRead v mask h ds → j < total_codewords_of v →
    difference (get_or cs j 0) (get_or ds j 0) ≤ codeword_differences g h ms j
interleaved-differences v mask g h ms cs ds j p q o a b l =
    search (arith, difference-most, byte-one, same-bits, difference-same, (a.bytes j 0 (omega (arith, codewords-many v mask g cs p q a))), (b.bytes j 0 (omega (arith, codewords-many v mask h ds p q b))), codeword-modules v mask g ms cs j p q o a l, codeword-modules v mask h ms ds j p q o b l)

-- ---- one block

-- codewords at the same indices differ at most as their modules do
pub items-differences : (f : ℕ → ℕ) (cs ds ks : List ℕ) → All (λ k. difference (item cs k) (item ds k) ≤ f k) ks →
    differences (map (item cs) ks) (map (item ds) ks) ≤ sum_by f ks
items-differences f cs ds [] h = omega arith
items-differences f cs ds (k ∷ ks) h =
    let near : ℕ → Type 0 = λ k. difference (item cs k) (item ds k) ≤ f k in
    omega (arith, All-head near k ks h, items-differences f cs ds ks (All-tail near k ks h), sum_by-cons f k ks)
