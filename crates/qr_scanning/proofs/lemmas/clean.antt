-- Lists that were written over, squares as bytes, and symbols that are drawn.
use Rattle.std.proofs.Common.{◌≡◌, ◌∙◌, ℕ, zero, suc, ◌↔◌, ◌+◌, ◌*◌, ◌%◌, ◌<◌, ◌≤◌, Bool, true, false, eqb, not, List, ◌++◌, length, get_or, ap, arith, refl, subst, sym}
use Rattle.std.specs.Prelude.{drop, take, MatchOption, IfOk, Option, Result, Ok, Err}
use Rattle.std.proofs.Math.Seq.{take-length}
use Rattle.std.proofs.lemmas.{List.{take-append-le}, Nat.{div-mul-add, mod-mul-add, mul-add-lt}}
use Rattle.qr_matrix.{proofs.Facts.{colour-square, colour-transposed, square-same}, specs.{Bytes.{byte_of, square_of_bytes, square_of_unknown}, Grid.{Grid, IsSquare, colour, light, square, transposed}}}
use Rattle.qr_pictures.specs.{Clean.{IsCleanPicture}, Laws.{CleanPicturesAreOne}, declared.clean.CleanSquare.{CleanSquare}}
use Rattle.qr_sampling.specs.Tables.{IsTable, entry}
use Rattle.qr_sampling.specs.declared.picture.Picture.{Picture}
use Rattle.qr_scanning.specs.Reading.{IsReadable, IsReadableSquare}
use Rattle.qr_scanning.specs.Scanning.{ArePlaced, IsSymbolIn, ShowsSymbol, as_read, pixels_in}
use Rattle.qr_scanning.specs.declared.scanning.Scanned.{Scanned}

-- a list that is written over a list of the same length is what is there then
pub written-over : (n : ℕ) (ws xs : List ℕ) → length ws ≡ n → take n (ws ++ drop (length ws) xs) ≡ ws
written-over n ws xs same =
    take-append-le n ws (drop (length ws) xs) (omega (arith, same)) ∙ (ap (λ (k : ℕ). take k ws) (sym same) ∙ take-length ws)

-- ---- modules as bytes

byte-known : (b : Bool) → eqb (byte_of b) 2 ≡ false
byte-known true = refl
byte-known false = refl

byte-colour : (b : Bool) → not (eqb (byte_of b) 0) ≡ b
byte-colour true = refl
byte-colour false = refl

byte-drawn : (n : ℕ) → n ≤ 1 → n ≡ byte_of (not (eqb n 0))
byte-drawn zero l = refl
byte-drawn (suc zero) l = refl
byte-drawn (suc (suc n)) l = absurd (omega (arith, l))

-- the list begins with the modules of the square
abbrev pub AreModules : ℕ → Grid → List ℕ → Type 0
AreModules n g bytes = (r c : ℕ) → r < n → c < n → get_or bytes (r * n + c) 0 ≡ byte_of (colour g r c)

-- bytes of which each is 0 or 1 are the modules of their square
pub drawn-modules : (n : ℕ) (g : Grid) (bytes : List ℕ) → square_of_bytes n bytes ≡ g → ((i : ℕ) → i < n * n → get_or bytes i 0 ≤ 1) → AreModules n g bytes
drawn-modules n g bytes same bits r c l m =
    byte-drawn _ (bits (r * n + c) (mul-add-lt r n c n l m))
    ∙ (ap byte_of (sym (colour-square n (λ r c. not (eqb (get_or bytes (r * n + c) 0) 0)) r c l m)) ∙ ap (λ (h : Grid). byte_of (colour h r c)) same)

-- all modules are known
all-known : (n : ℕ) (g : Grid) (bytes : List ℕ) → AreModules n g bytes → light n ≡ square_of_unknown n bytes
all-known n g bytes are =
    square-same n (λ _ _. false) (λ r c. eqb (get_or bytes (r * n + c) 0) 2) (λ r c l m. sym (ap (λ (b : ℕ). eqb b 2) (are r c l m) ∙ byte-known (colour g r c)))

-- bytes that are the modules of a square are this square
pub square-again : (n : ℕ) (g : Grid) (bytes : List ℕ) → IsSquare n g → AreModules n g bytes → square_of_bytes n bytes ≡ g
square-again n g bytes is are =
    square-same n (λ r c. not (eqb (get_or bytes (r * n + c) 0) 0)) (colour g) (λ r c l m. ap (λ (b : ℕ). not (eqb b 0)) (are r c l m) ∙ byte-colour (colour g r c))
    ∙ sym is

-- a square can be read exactly if it can be read from its modules
modules-readable : (n : ℕ) (g : Grid) (bytes : List ℕ) → IsSquare n g → AreModules n g bytes → IsReadableSquare (light n) g ↔ IsReadable n bytes
modules-readable n g bytes is are =
    let known = all-known n g bytes are in
    let same = square-again n g bytes is are in (
      λ read. subst (λ (h : Grid). IsReadableSquare (square_of_unknown n bytes) h) (sym same) (subst (λ (u : Grid). IsReadableSquare u g) known read),
      λ read. subst (λ (u : Grid). IsReadableSquare u g) (sym known) (subst (λ (h : Grid). IsReadableSquare (square_of_unknown n bytes) h) same read),
    )

-- ---- columns and rows exchanged

-- the mirror image of a square is a square
exchanged-square : (n : ℕ) (g : Grid) → IsSquare n g → IsSquare n (transposed g)
exchanged-square n g is =
    let f : ℕ → ℕ → Bool = λ r c. colour g c r in
    let side : g.side ≡ n = ap (λ (h : Grid). h.side) is in
    let own : IsSquare n (square n f) = square-same n f (colour (square n f)) (λ r c l m. sym (colour-square n f r c l m)) in
    subst (λ (k : ℕ). IsSquare n (square k f)) (sym side) own

-- modules with columns and rows exchanged are those of the mirror image
exchanged-modules : (n : ℕ) (g : Grid) (bytes other : List ℕ) → IsSquare n g → AreModules n g bytes
    → IsTable n (λ column row. entry n bytes row column) other → AreModules n (transposed g) other
exchanged-modules n g bytes other is are table r c l m =
    let side : g.side ≡ n = ap (λ (h : Grid). h.side) is in
    let k = r * n + c in
    table.values k (mul-add-lt r n c n l m)
    ∙ (ap (λ (row : ℕ). get_or bytes (k % n * n + row) 0) (div-mul-add r n c m)
    ∙ (ap (λ (column : ℕ). get_or bytes (column * n + r) 0) (mod-mul-add r n c m)
    ∙ (are c r m l ∙ ap byte_of (sym (colour-transposed g r c (omega (arith, l, side)) (omega (arith, m, side)))))))

-- ---- symbols that are drawn

own-modules : (mirrored : Bool) (n : ℕ) (g : Grid) (drawn modules : List ℕ) → IsSquare n g → AreModules n g drawn → ArePlaced mirrored n drawn modules
    → AreModules n (as_read mirrored g) modules
own-modules false n g drawn modules is are placed = subst (λ (xs : List ℕ). AreModules n g xs) (sym placed) are
own-modules true n g drawn modules is are placed = exchanged-modules n g drawn modules is are placed

-- the modules of a symbol are those of the square that is read
pub placed-modules : (mirrored told : Bool) (n : ℕ) (g : Grid) (drawn modules : List ℕ) → told ≡ mirrored → IsSquare n g → AreModules n g drawn
    → ArePlaced told n drawn modules → AreModules n (as_read mirrored g) modules
placed-modules mirrored told n g drawn modules same is are placed =
    own-modules mirrored n g drawn modules is are (subst (λ (b : Bool). ArePlaced b n drawn modules) same placed)

-- the square is tried as it is drawn, and then its mirror image
pub one-of-two : (P : Bool → Type 0) (mirrored : Bool) (n : ℕ) (g : Grid) (drawn : List ℕ) → IsSquare n g → AreModules n g drawn → (IsReadable n drawn → P false)
    → ((IsReadable n drawn → ⊥) → ((other : List ℕ) → IsTable n (λ column row. entry n drawn row column) other → IsReadable n other) → P true)
    → IsReadableSquare (light n) (as_read mirrored g) → (mirrored ≡ true → IsReadableSquare (light n) g → ⊥) → P mirrored
one-of-two P false n g drawn is are straight exchanged read last = straight ((modules-readable n g drawn is are).0 read)
one-of-two P true n g drawn is are straight exchanged read last =
    exchanged (λ own. last refl ((modules-readable n g drawn is are).1 own)) (λ other table.
    (modules-readable n (transposed g) other (exchanged-square n g is) (exchanged-modules n g drawn other is are table)).0 read)

-- a picture shows one square alone, so what is found for this square is found for each square that the picture shows
pub one-shown : {E : Type 0} (p : Picture) (t : CleanSquare) (h : Grid) (r : Result (Option Scanned) E) → CleanPicturesAreOne → IsCleanPicture (pixels_in p) t h
    → IfOk r (λ found. (mirrored : Bool) (g : Grid) → ShowsSymbol p t mirrored g → MatchOption found ⊥ (IsSymbolIn t mirrored g))
    → IfOk r (λ found. (s : CleanSquare) (mirrored : Bool) (g : Grid) → ShowsSymbol p s mirrored g → MatchOption found ⊥ (IsSymbolIn s mirrored g))
one-shown p t h (Ok found) one clean is = λ s mirrored g shows.
    let same = (one (pixels_in p) s t g h shows.clean clean).0 in
    subst (λ (q : CleanSquare). MatchOption found ⊥ (IsSymbolIn q mirrored g)) (sym same) (is mirrored g (subst (λ (q : CleanSquare). ShowsSymbol p q mirrored g) same shows))
one-shown p t h (Err e) one clean is = is
