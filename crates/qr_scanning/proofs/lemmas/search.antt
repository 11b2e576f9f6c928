-- Tables in lists that are longer.
use Rattle.std.proofs.Common.{◌≡◌, ◌∙◌, ℕ, ◌*◌, List, length, arith}
use Rattle.std.specs.Prelude.{take}
use Rattle.std.proofs.lemmas.List.{get_or-take, length-take-le}
use Rattle.qr_sampling.specs.Tables.{IsTable}

-- the beginning of the list, which has as many numbers as the table, is the table
table-part : (n : ℕ) (value : ℕ → ℕ → ℕ) (table : List ℕ) → IsTable n value table → IsTable n value (take (n * n) table)
table-part n value table is = record {
  room = omega (arith, length-take-le (n * n) table is.room);
  values = λ k small. get_or-take (n * n) table k 0 small ∙ is.values k small;
}

-- the same for a list that is equal to this beginning
pub table-cut : (side n : ℕ) (value : ℕ → ℕ → ℕ) (table part : List ℕ) → side ≡ n → part ≡ take (side * side) table → IsTable n value table
    → IsTable side value part
table-cut side n value table part same cut is = rw (cut, same) (table-part n value table is)

-- such a beginning has as many numbers as the table
pub cut-whole : (side n : ℕ) (value : ℕ → ℕ → ℕ) (table part : List ℕ) → side ≡ n → part ≡ take (side * side) table → IsTable n value table
    → length part ≡ side * side
cut-whole side n value table part same cut is = rw (cut, same) (length-take-le (n * n) table is.room)
