-- A block with more error correction codewords is also one with fewer, since the generator polynomial of fewer divides
-- that of more.
use Rattle.qr_field.proofs.lemmas.laws.DistanceLemmas.{difference-most, differences-none, weight-none, weight-plus}
use Rattle.qr_field.{proofs.lemmas.polynomial.{ListLemmas.{length-plus, bytes-plus}, PolynomialLemmas.correction-some}, specs.Distance.differences}
use Rattle.{qr_field.specs.Polynomial.{IsByte, plus}, qr_mending.{proofs.lemmas.block.{bytes-block, errors-value, root-block}, specs.Block.IsBlock}}
use Rattle.std.proofs.Common.{◌≡◌, ℕ, ◌-◌, ◌≤◌, List, [], ◌∷◌, ◌++◌, take, drop, length, length-append, length-drop, refl, sym, ◌∙◌, ap, arith}
use Rattle.std.proofs.lemmas.{Bool.Decides.nat_tests, List.{length-take, take-append-drop, Elements.All-take}}

-- lists of one length differ at most everywhere
differences-most : (xs ys : List ℕ) → length xs ≡ length ys → differences xs ys ≤ length xs
differences-most [] [] e = omega arith
differences-most [] (y ∷ ys) e = absurd (omega arith)
differences-most (x ∷ xs) [] e = absurd (omega arith)
differences-most (x ∷ xs) (y ∷ ys) e = omega (arith, difference-most x y, differences-most xs ys (omega arith))

-- lists with the same beginning differ as what comes after it
differences-rest : (zs us vs : List ℕ) → differences (zs ++ us) (zs ++ vs) ≡ differences us vs
differences-rest [] us vs = refl
differences-rest (z ∷ zs) us vs = grind (arith, nat_tests, differences-rest zs us vs)

-- the block differs in at most n codewords from the one whose last n codewords protect the others, and both have the
-- first n powers of 2 as roots
pub weaker-block : (n m : ℕ) (block : List ℕ) → 1 ≤ n → n ≤ m → length block ≤ 255 → IsBlock m block → IsBlock n block
weaker-block n m block some less few b =
    let k = length block - n in
    let front = take k block in
    let back = drop k block in
    let bytes = bytes-block m block b in
    let size : m ≤ length block = search (arith, length-append) in
    let f = correction-some front n some (All-take IsByte k block bytes) in
    let other = front ++ f.0 in
    let found : IsBlock n other = record { message = front; correction = f.0; whole = refl; corrects = f.1 } in
    let last = length-drop k block in
    let same : length block ≡ length other = omega (arith, length-take k block, length-append front f.0) in
    let join = ap (λ (z : List ℕ). differences z other) (sym (take-append-drop k block))
    ∙ differences-rest front back f.0 in
    let most = differences-most back f.0 (omega arith) in
    let weighs = weight-plus block other same in
    let sum = plus block other in
    search (
      arith,
      differences-none,
      weight-none (length sum) n sum (omega arith) (omega (
        arith,
        length-plus block other (omega arith),
      )) (bytes-plus block other bytes (bytes-block n other found)) (omega arith) (λ i h. cc (errors-value n block other found (sym same) bytes i h, root-block m block b i (omega arith))),
    )
