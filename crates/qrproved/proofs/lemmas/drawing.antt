-- The squares whose modules have some bytes, read one square after another.
use Rattle.{qr_drawing.specs.Drawing.HaveOneSide, qr_matrix.specs.Grid.Grid, qrproved.specs.{Drawing.squares_of_bytes, Modules.square_of_bytes}}
use Rattle.std.proofs.{Common.{◌≡◌, ℕ, zero, suc, ◌*◌, ◌≤◌, List, [], ◌∷◌, ◌++◌, length, drop, refl, ap, append-nil, arith}, lemmas.List.append_assoc}
use Rattle.std.{proofs.lemmas.List.Elements.{All-cons, All-nil}, specs.List.All}

-- after one more square is read, the squares that were read and those that are left are still all squares
pub one-more : (side left n : ℕ) (read : List Grid) (rest : List ℕ) → left ≡ suc n
    → (read ++ (square_of_bytes side rest ∷ [])) ++ squares_of_bytes side n (drop (side * side) rest)
    ≡ read ++ squares_of_bytes side left rest
unfolding squares_of_bytes
one-more side left n read rest e = search (arith, append_assoc)

-- at the end no square is left
pub no-more : (side left : ℕ) (read : List Grid) (rest : List ℕ) → left ≡ 0 → read ++ squares_of_bytes side left rest ≡ read
unfolding squares_of_bytes
no-more side left read rest e = rw e (append-nil read)

-- the number of squares that are read is `count`
pub many-squares : (side count : ℕ) (bytes : List ℕ) → length (squares_of_bytes side count bytes) ≡ count
unfolding squares_of_bytes
many-squares side zero bytes = refl
many-squares side (suc n) bytes = ap suc (many-squares side n (drop (side * side) bytes))

-- each square has this side
sides : (side count : ℕ) (bytes : List ℕ) → All (λ g. g.side ≡ side) (squares_of_bytes side count bytes)
unfolding squares_of_bytes
sides side zero bytes = All-nil (λ g. g.side ≡ side)
sides side (suc n) bytes = search (arith, All-cons, sides side n (drop (side * side) bytes))

-- so all squares have the same side
pub one-side : (side count : ℕ) (bytes : List ℕ) → 1 ≤ count → HaveOneSide (squares_of_bytes side count bytes)
one-side side count bytes some k d l = omega (arith, sides, many-squares)
