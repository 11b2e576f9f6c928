use Rattle.qr_mending.{proofs.lemmas.erasures.{read-unmarked, unerased-mended, unerased-refused}, specs.Erasures.read_of}
use Rattle.std.proofs.{Common.{rules, ◌≡◌, ◌==◌, ℕ, Bool, true, List, [], ◌∷◌, Some, length, map}, lemmas.Bool.{false≢true, ne_eqb}}
use Rattle.qr_mending.proofs.message.mend_block.Goals as goal

-- without marks every codeword was read
all-read : (codewords : List ℕ) (erased : List Bool) (is_empty : Bool) → is_empty ≡ (length erased == 0) → is_empty ≡ true →
    read_of codewords erased ≡ map (λ x. Some x) codewords
all-read codewords [] is_empty e t = read-unmarked codewords 0
all-read codewords (x ∷ xs) is_empty e t = search (rules, false≢true, ne_eqb)

pub returns-then-is_empty-clause-mended : goal.returns-then-is_empty-clause-mended
returns-then-is_empty-clause-mended c = search (rules, all-read, unerased-mended)

pub returns-then-is_empty-clause-refused : goal.returns-then-is_empty-clause-refused
returns-then-is_empty-clause-refused c = search (rules, all-read, unerased-refused)
